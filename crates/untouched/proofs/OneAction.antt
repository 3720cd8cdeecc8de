-- What an accepted call writes into one action lies where it may: `x-alone` says that x changes there alone.
-- Assumes nothing.
use mathlib.Core.Path.{◌≡◌, refl, sym, ap, subst, ◌∙◌}
use mathlib.Core.Bool.{Bool, true, false, not, cond, ◌&&◌}
use mathlib.Core.List.{List, [], ◌∷◌, ◌++◌, append_assoc, append-nil}
use Prim.Native.Nat.{ℕ, ◌+◌, ◌<◌, ◌≤◌}
use native.Mathlib.Omega.{arith}
use borrow.Author.Tests.{eqb-true, le-leb}
use lib.Dec.{eqb, ltb}
use lib.ListN.{length, take, drop, replicate, length-append, length-drop, take-append-drop}
use lib.Seq.{take_at, drop_at, drop-drop, take_all, length-take-le}
use Rattle.number.specs.Number.{Bytes, number, bytes_of, with_number_at, capped_sum}
use Rattle.number.proofs.Laws.{length-bytes_of, length_with_number, number_there, bytes_of-number, bytes_drop}
use Rattle.action.specs.Action.{Action, data_length, expired}
use Rattle.action.specs.Fields.{is_token, is_recurring, mint_length, amounts_of, spent, last_reset}
use Rattle.action.proofs.Lengths.{listed_passes}
use Rattle.action.proofs.Regular.{Regular, mint_there, amounts_are_bytes}
use Rattle.change.specs.declared.Change.{Change}
use Rattle.change.specs.declared.Change.TheVariants.{Nothing}
use Rattle.change.specs.Changed.{with_amounts, with_spent, changed_amounts, changed}
use Rattle.change.proofs.Changing.{changed-length}
use Rattle.region.specs.Region.{glue_one}
use Rattle.limit.specs.Limit.{window_over, is_limit, spent_change, live_change, change_of}
use Rattle.limit.proofs.Rules.{spent_anew, spent_more, change-recurring, change-limit, change_none}
use Rattle.judge.specs.Judge.{Call, amount_for}
use Rattle.judge.proofs.Theorems.{writes}
use Rattle.untouched.specs.MayChange.{may, may_not, of_limit, of_amounts, of_action}
use Rattle.untouched.proofs.SameBut.{SameBut, joined, all_kept, all_free}

-- ---- the amounts of a window

-- a number put in the place of one of three parts
put_between : (before old after : List ℕ) (at n : ℕ) → length before ≡ at → length old ≡ 8
    → with_number_at 8 (before ++ (old ++ after)) at n ≡ before ++ (bytes_of 8 n ++ after)
unfolding with_number_at
put_between before old after at n e f =
    let long : at + 8 ≤ length (before ++ (old ++ after)) = simp length-append (omega arith) in
    let past : drop (at + 8) (before ++ (old ++ after)) ≡ after =
    ap (drop (at + 8)) (sym (append_assoc before old after)) ∙ drop_at (before ++ old) after (at + 8) (length-append before old ∙ omega arith) in
    rw (le-leb _ _ long, take_at before (old ++ after) at e, past, append_assoc before (bytes_of 8 n) after)

module _ (amounts : List ℕ) (long : length amounts ≡ 32) where
  abbrev limit_bytes : List ℕ
  limit_bytes = take 8 amounts

  abbrev spent_bytes : List ℕ
  spent_bytes = take 8 (drop 8 amounts)

  abbrev window_bytes : List ℕ
  window_bytes = take 8 (drop 16 amounts)

  abbrev reset_bytes : List ℕ
  reset_bytes = drop 24 amounts

  in_four : limit_bytes ++ (spent_bytes ++ (window_bytes ++ reset_bytes)) ≡ amounts
  in_four =
      ap (λ (l : List ℕ). limit_bytes ++ (spent_bytes ++ (window_bytes ++ l))) (sym (drop-drop 8 16 amounts))
      ∙ ap (λ (l : List ℕ). limit_bytes ++ (spent_bytes ++ l)) (take-append-drop 8 (drop 16 amounts) ∙ sym (drop-drop 8 8 amounts))
      ∙ ap (λ (l : List ℕ). limit_bytes ++ l) (take-append-drop 8 (drop 8 amounts))
      ∙ take-append-drop 8 amounts

  limit_long : length limit_bytes ≡ 8
  limit_long = length-take-le 8 amounts (omega arith)

  spent_long : length spent_bytes ≡ 8
  spent_long = length-take-le 8 (drop 8 amounts) (rw (length-drop 8 amounts) (omega arith))

  window_long : length window_bytes ≡ 8
  window_long = length-take-le 8 (drop 16 amounts) (rw (length-drop 16 amounts) (omega arith))

  reset_long : length reset_bytes ≡ 8
  reset_long = rw (length-drop 24 amounts) (omega arith)

  spent_put : (x y : ℕ) → with_spent amounts x y ≡ limit_bytes ++ (bytes_of 8 x ++ (window_bytes ++ bytes_of 8 y))
  spent_put x y =
      let front : List ℕ = limit_bytes ++ (bytes_of 8 x ++ window_bytes) in
      let regroup : (l : List ℕ) → limit_bytes ++ (bytes_of 8 x ++ (window_bytes ++ l)) ≡ front ++ (l ++ []) = λ l. simp (append_assoc, append-nil) in
      let long : length front ≡ 24 = simp (length-append, length-bytes_of) (omega (arith, limit_long, window_long)) in
      ap (λ (l : List ℕ). with_spent l x y) (sym in_four)
      ∙ ap (λ (l : List ℕ). with_number_at 8 l 24 y) (put_between limit_bytes spent_bytes (window_bytes ++ reset_bytes) 8 x limit_long spent_long ∙ regroup reset_bytes)
      ∙ put_between front reset_bytes [] 24 y long reset_long
      ∙ sym (regroup (bytes_of 8 y))

  reset_kept : Bytes amounts → bytes_of 8 (last_reset amounts) ≡ reset_bytes
  reset_kept bytes =
      let there : last_reset amounts ≡ number reset_bytes =
      number_there 8 amounts 24 (omega arith) ∙ ap number (take_all 8 reset_bytes (omega (arith, reset_long))) in
      ap (bytes_of 8) there
      ∙ ap (λ (n : ℕ). bytes_of n (number reset_bytes)) (sym reset_long)
      ∙ bytes_of-number reset_bytes (bytes_drop 24 amounts bytes)

  -- what is spent may change, and so may the last reset where the window is over
  spent_alone : Bytes amounts → (slot amount : ℕ)
      → SameBut (may_not 8 ++ may 8 ++ may_not 8 ++ replicate 8 (window_over slot amounts)) amounts (changed_amounts (spent_change slot amount amounts) amounts)
  spent_alone bytes slot amount = go (window_over slot amounts) refl
    where
      put : (last : Bool) (x y : ℕ) → SameBut (replicate 8 last) reset_bytes (bytes_of 8 y)
          → SameBut (may_not 8 ++ may 8 ++ may_not 8 ++ replicate 8 last) amounts (with_spent amounts x y)
      put last x y reset =
          subst (λ (l : List ℕ). SameBut (may_not 8 ++ may 8 ++ may_not 8 ++ replicate 8 last) l (with_spent amounts x y)) in_four
          (rw (spent_put x y)
          (joined (all_kept 8 limit_bytes limit_long)
          (joined (all_free 8 spent_bytes (bytes_of 8 x) spent_long (length-bytes_of 8 x)) (joined (all_kept 8 window_bytes window_long) reset))))

      go : (over : Bool) → window_over slot amounts ≡ over
          → SameBut (may_not 8 ++ may 8 ++ may_not 8 ++ replicate 8 over) amounts (changed_amounts (spent_change slot amount amounts) amounts)
      go true e = rw (spent_anew slot amount amounts e) (put true amount _ (all_free 8 reset_bytes _ reset_long (length-bytes_of 8 _)))
      go false e =
          rw (spent_more slot amount amounts e)
          (put false (capped_sum (spent amounts) amount) (last_reset amounts) (rw (reset_kept bytes) (all_kept 8 reset_bytes reset_long)))

-- ---- one action

-- its bytes before its amounts: the header, and the mint where it has one
abbrev before_amounts : Action → List ℕ
before_amounts a = a.kind ∷ bytes_of 2 (length a.payload) ++ bytes_of 8 a.expires ++ take (mint_length a.kind) a.payload

glued : (a : Action) → glue_one a ≡ before_amounts a ++ amounts_of a
unfolding glue_one amounts_of
glued a =
    let head : List ℕ = a.kind ∷ bytes_of 2 (length a.payload) ++ bytes_of 8 a.expires in
    sym (append_assoc head (take (mint_length a.kind) a.payload) _ ∙ ap (λ (l : List ℕ). head ++ l) (take-append-drop (mint_length a.kind) a.payload))

glued_changed : (change : Change) (a : Action) → glue_one (changed change a) ≡ before_amounts a ++ changed_amounts change (amounts_of a)
unfolding glue_one changed with_amounts
glued_changed change a = rw (changed-length change a, append_assoc)

-- data is as long as the amounts of its limit ask
sized : (code : ℕ) → 0 < data_length code
    → cond (is_recurring code) (eqb (data_length code) (mint_length code + 32)) (cond (is_limit code) (eqb (data_length code) (mint_length code + 8)) true) ≡ true
unfolding is_token is_recurring is_limit
sized code some = listed_passes (λ (c size : ℕ). cond (is_recurring c) (eqb size (mint_length c + 32)) (cond (is_limit c) (eqb size (mint_length c + 8)) true)) refl code some

module _ (call : Call) {a : Action} (r : Regular a) where
  amounts_long : (n : ℕ) → eqb (data_length a.kind) (mint_length a.kind + n) ≡ true → length (amounts_of a) ≡ n
  unfolding amounts_of
  amounts_long n e = rw (length-drop (mint_length a.kind) a.payload, r.sized) (omega (arith, eqb-true (data_length a.kind) (mint_length a.kind + n) e))

  limit_alone : (slot amount : ℕ) → SameBut (of_limit slot a) (amounts_of a) (changed_amounts (live_change slot amount a) (amounts_of a))
  unfolding of_limit
  limit_alone slot amount = go (is_recurring a.kind) refl (is_limit a.kind) refl (sized a.kind r.known)
    where
      go : (recurring : Bool) → is_recurring a.kind ≡ recurring → (left : Bool) → is_limit a.kind ≡ left
          → cond recurring (eqb (data_length a.kind) (mint_length a.kind + 32)) (cond left (eqb (data_length a.kind) (mint_length a.kind + 8)) true) ≡ true
          → SameBut (of_limit slot a) (amounts_of a) (changed_amounts (live_change slot amount a) (amounts_of a))
      go true e left f long =
          rw (e, change-recurring slot amount a (amounts_of a) refl e) (spent_alone (amounts_of a) (amounts_long 32 long) (amounts_are_bytes r) slot amount)
      go false e true f long =
          let eight = amounts_long 8 long in
          rw (e, f, change-limit slot amount a (amounts_of a) refl e f) (all_free 8 (amounts_of a) _ eight (length_with_number 8 (amounts_of a) 0 _ ∙ eight))
      go false e false f long = rw (e, f, change_none slot amount a (amounts_of a) refl e f) (all_kept _ (amounts_of a) refl)

  amounts_alone : SameBut (of_amounts call a) (amounts_of a) (changed_amounts (writes call a) (amounts_of a))
  unfolding of_amounts writes change_of
  amounts_alone = go (ltb 0 (amount_for call a) && not (expired a.expires call.slot))
    where
      go : (takes : Bool)
          → SameBut (cond takes (of_limit call.slot a) (may_not (length (amounts_of a)))) (amounts_of a)
          (changed_amounts (cond takes (live_change call.slot (amount_for call a) a) Nothing) (amounts_of a))
      go true = limit_alone call.slot (amount_for call a)
      go false = all_kept _ (amounts_of a) refl

  -- the header and the mint stay
  pub action_alone : SameBut (of_action call a) (glue_one a) (glue_one (changed (writes call a) a))
  unfolding of_action
  action_alone =
      let mint : length (take (mint_length a.kind) a.payload) ≡ mint_length a.kind = length-take-le (mint_length a.kind) a.payload (mint_there r) in
      let long : length (before_amounts a) ≡ 11 + mint_length a.kind = simp (length-append, length-bytes_of) (omega (arith, mint)) in
      rw (glued a, glued_changed (writes call a) a) (joined (all_kept _ (before_amounts a) long) amounts_alone)
