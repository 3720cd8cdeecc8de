-- Laws of the amounts: which one an action has, and laying them one after the other.
-- Assumes nothing.
use mathlib.Core.Path.{◌≡◌, refl, sym, ap, ◌∙◌}
use mathlib.Core.Bool.{true, false}
use mathlib.Core.Logic.{⊎_elim}
use mathlib.Core.List.{List, [], ◌∷◌, ◌++◌, map}
use Prim.Native.Nat.{ℕ, zero, suc, ◌+◌, ◌-◌, ◌<◌, min}
use native.Mathlib.Nat.{eq-zero-or-pos}
use native.Mathlib.Omega.{arith}
use borrow.Author.Tests.{eq-eqb, ne_eqb}
use lib.ListN.{length, get_or, take, set, replicate, length-append, length-take, length-map, length-replicate, get_or-map}
use lib.Seq.{take_all, take-suc, set_at, append_snoc}
use denote.Param.Members.{Mut}
use Rattle.std.specs.Fn.{Called}
use Rattle.std.specs.Array.{IsFromFnResult, IsFromFnResultFrom}
use Rattle.std.specs.Prelude.{Option, None, Some, MatchOption, ⊤, slice_get}
use Rattle.std.specs.List.{position}
use Rattle.std.proofs.lemmas.List.{get_or-map as map_at}
use Rattle.std.proofs.lemmas.List.Quantifiers.{position-Some}
use Rattle.std.proofs.lemmas.Option.{slice_get_within, get_or_from_slice_get}
use Rattle.number.specs.Number.{floored_difference}
use Rattle.key.specs.Key.{same_key}
use Rattle.key.proofs.Laws.{same_key_eq}
use Rattle.action.specs.declared.ActionView.{ActionView}
use Rattle.action.specs.Fields.{is_token, key_of}
use Rattle.action.specs.Views.{zero_action_view, action_at}
use Rattle.row.specs.Views.{actions_in}
use Rattle.account.specs.Record.{Record}
use Rattle.balance.specs.declared.Sums.{Sums}
use Rattle.balance.specs.Balance.{balance}
use Rattle.balance.specs.Views.{sums_of}
use Rattle.outflow.specs.Views.{sum_for}
use Rattle.outflow.specs.Outflow.{decrease, decrease_of, sol_amount, amount_from}

-- ---- one action

pub decreased : (x y a b : ℕ) → a ≡ x → b ≡ y → floored_difference a b ≡ decrease x y
unfolding decrease
decreased x y a b p q = rw (p, q)

pub mint_decreased : (vault : List ℕ) (before after : List Record) (mint : List ℕ) (a b : ℕ) → a ≡ balance vault mint before → b ≡ balance vault mint after
    → floored_difference a b ≡ decrease_of vault before after mint
unfolding decrease_of
mint_decreased vault before after mint a b p q = decreased _ _ a b p q

module _ (sol gross kind : ℕ) where
  pub gross_amount : kind ≡ 3 → gross ≡ sol_amount sol gross kind
  unfolding sol_amount
  gross_amount k = rw (eq-eqb _ _ k)

  pub sol_amount_lem : (kind ≡ 3 → ⊥) → sol ≡ sol_amount sol gross kind
  unfolding sol_amount
  sol_amount_lem k = rw (ne_eqb _ _ k)

module _ (vault : List ℕ) (before after : List Record) (sol gross : ℕ) (s : List ℕ) (v : ActionView) where
  pub token_amount : is_token v.kind ≡ true → amount_from vault before after sol gross (action_at s v) ≡ decrease_of vault before after (key_of (action_at s v))
  unfolding amount_from action_at
  token_amount e = rw e

  pub other_amount : is_token v.kind ≡ false → amount_from vault before after sol gross (action_at s v) ≡ sol_amount sol gross v.kind
  unfolding amount_from action_at
  other_amount e = rw e

-- ---- one after the other

-- the amounts of the first i, and zeros past them
abbrev pub laid : {A : Type 0} → (A → ℕ) → List A → ℕ → List ℕ
laid f l i = take i (map f l) ++ replicate (16 - i) 0

module _ {A : Type 0} (f : A → ℕ) (l : List A) (i : ℕ) where
  pub amount_laid : (d : A) → i < length l → i < 16 → (x : ℕ) → x ≡ f (get_or l i d) → set (laid f l i) i x ≡ laid f l (suc i)
  amount_laid d h room x e =
      let all = map f l in
      let inside : i < length all = simp length-map h in
      let place : length (take i all) ≡ i = simp (length-take, length-map) (omega arith) in
      let one_less : 16 - i ≡ suc (16 - suc i) = omega arith in
      let this : get_or all i (f d) ≡ x = get_or-map f l i d ∙ sym e in
      rw (one_less, take-suc all i (f d) inside, this, append_snoc) (set_at (take i all) 0 (replicate (16 - suc i) 0) x i place)

  pub all_laid : i ≡ min (length l) 16 → record { list = laid f l i } ≡ sums_of (map f l)
  unfolding sums_of
  all_laid e =
      let all = map f l in
      let size : length all ≡ length l = simp length-map in
      let front : take i all ≡ take 16 all =
      ⊎_elim
      (λ (few : length l - 16 ≡ 0). take_all i all (omega arith) ∙ sym (take_all 16 all (omega arith)))
      (λ (many : 0 < length l - 16). ap (λ (k : ℕ). take k all) (let k : i ≡ 16 = omega arith in k))
      (eq-zero-or-pos (length l - 16)) in
      let rest : 16 - i ≡ 16 - length all = omega arith in
      rw (front, rest)

-- what stands at a place of the sums, zero past the last
zeros_at : (n i : ℕ) → ◌≡◌ {A = ℕ} (get_or (replicate n 0) i 0) 0
zeros_at zero i = refl
zeros_at (suc n) zero = refl
zeros_at (suc n) (suc i) = zeros_at n i

front_at : (n : ℕ) (xs : List ℕ) (i : ℕ) → i < n → get_or (take n xs ++ replicate (n - length xs) 0) i 0 ≡ get_or xs i 0
front_at zero xs i h = absurd (omega arith)
front_at (suc n) [] i h = zeros_at _ i
front_at (suc n) (x ∷ xs) zero h = refl
front_at (suc n) (x ∷ xs) (suc i) h =
    let less : suc n - length (x ∷ xs) ≡ n - length xs = omega arith in
    rw less (front_at n xs i (omega arith))

pub sum_at : (xs : List ℕ) (i : ℕ) → i < 16 → get_or (sums_of xs).list i 0 ≡ get_or xs i 0
unfolding sums_of
sum_at xs i h = front_at 16 xs i h

pub length_sums : (xs : List ℕ) → length (sums_of xs).list ≡ 16
unfolding sums_of
length_sums xs = simp (length-append, length-take, length-replicate) (omega arith)

-- the difference of a mint's two balances is its decrease, and nothing past the last mint
pub decrease_at : (vault : List ℕ) (before after : List Record) (ks : List (List ℕ)) (i : ℕ)
    → floored_difference (get_or (map (λ (m : List ℕ). balance vault m before) ks) i 0) (get_or (map (λ (m : List ℕ). balance vault m after) ks) i 0)
    ≡ get_or (map (decrease_of vault before after) ks) i 0
decrease_at vault before after [] i = unfold floored_difference in refl
decrease_at vault before after (k ∷ ks) zero = mint_decreased vault before after k _ _ refl refl
decrease_at vault before after (k ∷ ks) (suc i) = decrease_at vault before after ks i

-- what `from_fn` makes by a closure that computes h
made_from : {F : Type 0} (g : Mut F (ℕ × Unit {0}) ℕ) (f : F) (h : ℕ → ℕ)
    → ((i y : ℕ) (q : F) → Called g f (i, tt) y q → (q ≡ f) × (y ≡ h i))
    → (ys : List ℕ) (i n : ℕ) → IsFromFnResultFrom g f ys i n → (k : ℕ) → k < n → get_or ys (i + k) 0 ≡ h (i + k)
made_from g f h each ys i zero r k below = absurd (omega arith)
made_from g f h each ys i (suc n) (q, y, here, call, rest) zero below =
    let place : i + 0 ≡ i = omega arith in
    rw place (here.1 0 ∙ (each i y q call).1)
made_from g f h each ys i (suc n) (q, y, here, call, rest) (suc k) below =
    let next : i + suc k ≡ (i + 1) + k = omega arith in
    rw next (made_from g f h each ys (i + 1) n (rw (each i y q call).0 at rest) k (omega arith))

pub made_at : {F : Type 0} (g : Mut F (ℕ × Unit {0}) ℕ) (f : F) (h : ℕ → ℕ)
    → ((i y : ℕ) (q : F) → Called g f (i, tt) y q → (q ≡ f) × (y ≡ h i))
    → (ys : List ℕ) (n : ℕ) → IsFromFnResult g f ys n → (k : ℕ) → k < n → get_or ys k 0 ≡ h k
made_at g f h each ys n r k below =
    let place : 0 + k ≡ k = omega arith in
    rw place at (made_from g f h each ys 0 n r.each k below)

-- the action of a view
pub action_at_lem : (s : List ℕ) (views : List ActionView) (i : ℕ) → action_at s (get_or views i zero_action_view) ≡ get_or (actions_in s views) i (action_at s zero_action_view)
unfolding actions_in
action_at_lem s views i = sym (get_or-map (action_at s) views i zero_action_view)

-- what a list of sums has for a listed key is that of the key
known : (f : List ℕ → ℕ) (ks : List (List ℕ)) (key : List ℕ) (at : ℕ) → position (λ (k : List ℕ). same_key k key) ks ≡ Some at
    → (d : ℕ) → slice_get (sums_of (map f ks)).list at ≡ Some d → d ≡ f key
known f ks key at found d there =
    let sums = (sums_of (map f ks)).list in
    let place = position-Some (λ (k : List ℕ). same_key k key) ks at [] found in
    let inside : at < length ks = place.0 in
    let few : at < length sums = slice_get_within sums at d there in
    let room : at < 16 = omega (arith, length_sums (map f ks)) in
    let here : get_or sums at 0 ≡ d = get_or_from_slice_get sums at d 0 there in
    sym here ∙ sum_at (map f ks) at room ∙ map_at f ks at [] 0 inside ∙ ap f (same_key_eq (get_or ks at []) key place.1)

pub known_decrease : (f : List ℕ → ℕ) (ks : List (List ℕ)) (key : List ℕ) (sums : Sums) → sums ≡ sums_of (map f ks)
    → (o : Option ℕ) → o ≡ position (λ (k : List ℕ). same_key k key) ks → MatchOption (sum_for o sums) ⊤ (λ d. d ≡ f key)
known_decrease f ks key sums e None found = tt
known_decrease f ks key sums e (Some at) found = go (slice_get sums.list at) refl
  where
    go : (o : Option ℕ) → slice_get sums.list at ≡ o → MatchOption o ⊤ (λ d. d ≡ f key)
    go None there = tt
    go (Some d) there = known f ks key at (sym found) d (rw e at there)
