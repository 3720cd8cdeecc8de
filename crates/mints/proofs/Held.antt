-- The listed mints of actions of the listed lengths are just the mints of the token actions.
-- Assumes nothing.
use mathlib.Core.Path.{◌≡◌, sym, ap, ◌∙◌, refl}
use mathlib.Core.Bool.{Bool, true, false, ◌&&◌, ◌||◌, or-false, or_assoc, and-eq-true_iff}
use mathlib.Core.List.{List, [], ◌∷◌}
use Prim.Native.Nat.{ℕ, ◌+◌, ◌≤◌}
use native.Mathlib.Omega.{arith}
use borrow.Author.Tests.{eqb-true}
use lib.Dec.{eqb, lit≤}
use lib.ListN.{length}
use lib.Seq.{length-take-le}
use Rattle.key.specs.Key.{same_key}
use Rattle.key.specs.Views.{zero_key}
use Rattle.keys.specs.declared.Keys.{Keys}
use Rattle.keys.specs.Views.{is_among, keys_in, keys_of, with_key}
use Rattle.keys.proofs.Laws.{among_with_one, with_key_in, with_key_next}
use Rattle.action.specs.Action.{Action, data_length, size_among}
use Rattle.action.specs.Fields.{is_token, key_of}
use Rattle.creation.specs.declared.Rule.TheVariants.{Length}
use Rattle.creation.specs.Creation.{keeps, all_keep}
use Rattle.mints.specs.Mints.{is_listed}
use Rattle.mints.specs.Views.{with_mint, with_mints, listed_mints}
use Rattle.mints.proofs.Listing.{mint_kept, mint_added, mints_none}

-- a token action of the length that is listed has a mint of 32 bytes
token_size : (kind : ℕ) → is_token kind ≡ true → 32 ≤ data_length kind
unfolding is_token data_length size_among
token_size kind e = go (eqb kind 4) (eqb kind 5) (eqb kind 6) refl refl refl
  where
    go : (four five six : Bool) → eqb kind 4 ≡ four → eqb kind 5 ≡ five → eqb kind 6 ≡ six → 32 ≤ data_length kind
    go true five six p q r = rw (eqb-true kind 4 p) (lit≤ tt)
    go false true six p q r = rw (eqb-true kind 5 q) (lit≤ tt)
    go false false true p q r = rw (eqb-true kind 6 r) (lit≤ tt)
    go false false false p q r = absurd (let z : ◌≡◌ {A = Bool} false true = sym (rw (p, q, r)) ∙ e in let n : ◌≡◌ {A = ℕ} 0 1 = cc in omega arith)

pub mint_size : (a : Action) → keeps Length a ≡ true → is_token a.kind ≡ true → length (key_of a) ≡ 32
unfolding key_of keeps
mint_size a kept token =
    let size : length a.payload ≡ data_length a.kind = eqb-true _ _ kept in
    length-take-le 32 a.payload (omega (arith, token_size a.kind token))

-- a mint is among those collected where it was, or where a token action has it
pub among_mints : (mint : List ℕ) (l : List Action) (mints : Keys) → length mints.list ≡ 16 → mints.count + length l ≤ 16 → all_keep Length l ≡ true
    → is_among mint (keys_in (with_mints mints l)) ≡ (is_among mint (keys_in mints) || is_listed mint l)
unfolding with_mints is_listed all_keep
among_mints mint [] mints long room e = sym (or-false _)
among_mints mint (a ∷ l) mints long room e =
    let (here, after) = (and-eq-true_iff (keeps Length a) _).0 e in
    go here (is_token a.kind) refl (λ (m : Keys) (p : length m.list ≡ 16) (q : m.count + length l ≤ 16). among_mints mint l m p q after)
  where
    go : keeps Length a ≡ true → (t : Bool) → is_token a.kind ≡ t
        → ((m : Keys) → length m.list ≡ 16 → m.count + length l ≤ 16 → is_among mint (keys_in (with_mints m l)) ≡ (is_among mint (keys_in m) || is_listed mint l))
        → is_among mint (keys_in (with_mints (with_mint mints a) l)) ≡ (is_among mint (keys_in mints) || (t && same_key (key_of a) mint || is_listed mint l))
    go kept false token rec = rw (mint_kept mints a token) (rec mints long (omega arith))
    go kept true token rec =
        let next = with_key_next mints (key_of a) in
        let grown : (with_key mints (key_of a)).count + length l ≤ 16 = omega (arith, next.grows) in
        let has : is_among mint (keys_in (with_key mints (key_of a))) ≡ (is_among mint (keys_in mints) || same_key (key_of a) mint) =
        ap (is_among mint) (with_key_in mints (key_of a) long (omega arith) (mint_size a kept token)) ∙ among_with_one mint (keys_in mints) (key_of a) in
        rw (mint_added mints a token)
        (rec (with_key mints (key_of a)) (next.places ∙ long) grown ∙ ap (λ (t : Bool). t || is_listed mint l) has ∙ or_assoc (is_among mint (keys_in mints)) _ _)

-- the listed mints hold just the mints of the token actions
pub listed_mints_hold : (mint : List ℕ) (l : List Action) → all_keep Length l ≡ true → length l ≤ 16 → is_among mint (keys_in (listed_mints l)) ≡ is_listed mint l
listed_mints_hold mint l e h = ap (λ (k : Keys). is_among mint (keys_in k)) (mints_none l) ∙ among_mints mint l (keys_of []) no_places no_count e ∙ rw none_among
  where
    no_places : length (keys_of []).list ≡ 16
    no_places = unfold keys_of zero_key in refl

    no_count : (keys_of []).count + length l ≤ 16
    no_count = unfold keys_of in omega arith

    none_among : is_among mint (keys_in (keys_of [])) ≡ false
    none_among = unfold is_among keys_in keys_of in refl
