-- Laws of the totals of the listed mints, as the walk goes: record by record, and for each of them mint by mint.
-- Assumes nothing.
use mathlib.Core.Path.{◌≡◌, refl, sym, ap, ap₂, ◌∙◌}
use mathlib.Core.Bool.{Bool, true, false}
use mathlib.Core.List.{List, [], ◌∷◌, ◌++◌, map, map-append}
use Prim.Native.Nat.{ℕ, zero, suc, ◌-◌, ◌^◌, ◌<◌}
use native.Mathlib.Omega.{arith}
use lib.ListN.{length, get_or, take, set, replicate}
use Rattle.number.specs.Number.{capped_sum}
use Rattle.std.proofs.lemmas.List.{set-get_or}
use lib.Seq.{take-nil, take-suc}
use Rattle.key.specs.Key.{same_key}
use Rattle.key.proofs.Laws.{same_key_eq}
use Rattle.account.specs.declared.RecordView.{RecordView}
use Rattle.account.specs.Record.{Record}
use Rattle.account.specs.Views.{record_at, records_in}
use Rattle.token.specs.Tokens.{mint_of, amount_of, is_counted}
use Rattle.balance.specs.Balance.{share, balance}
use Rattle.balance.specs.Views.{sums_of, with_record}
use Rattle.balance.proofs.Adding.{balance_nil, balance_push, stays_not_counted, stays_other_mint, grows_counted}

same_key_turned : (a b : List ℕ) → same_key a b ≡ same_key b a
same_key_turned a b = go (same_key a b) (same_key b a) refl refl
  where
    go : (t u : Bool) → same_key a b ≡ t → same_key b a ≡ u → same_key a b ≡ same_key b a
    go true u e f = let same = same_key_eq a b e in ap₂ same_key same (sym same)
    go false true e f = let same = same_key_eq b a f in ap₂ same_key (sym same) same
    go false false e f = e ∙ sym f

module _ (vault : List ℕ) (r : Record) where
  -- a record that is not counted adds nothing
  pub with_none : is_counted vault r ≡ false → (ks : List (List ℕ)) (ts : List ℕ) → ((i : ℕ) → get_or ts i 0 < 2 ^ 64) → with_record vault r ks ts ≡ ts
  unfolding with_record
  with_none c [] ts fit = refl
  with_none c (k ∷ ks) [] fit = refl
  with_none c (k ∷ ks) (t ∷ ts) fit =
      rw (stays_not_counted r vault k t (fit 0) c, with_none c ks ts (λ i. fit (suc i)))

  -- what stands past the last mint stays
  with_rest : (ks : List (List ℕ)) (ts : List ℕ) (j : ℕ) → get_or (with_record vault r (take j ks) ts) j 0 ≡ get_or ts j 0
  unfolding with_record
  with_rest [] ts j = rw (take-nil {A = List ℕ} j)
  with_rest (k ∷ ks) ts zero = refl
  with_rest (k ∷ ks) [] (suc j) = refl
  with_rest (k ∷ ks) (t ∷ ts) (suc j) = with_rest ks ts j

  -- one mint more
  pub with_next : (ks : List (List ℕ)) (ts : List ℕ) (j : ℕ) (d : List ℕ) → j < length ks → j < length ts
      → with_record vault r (take (suc j) ks) ts ≡ set (with_record vault r (take j ks) ts) j (capped_sum (get_or (with_record vault r (take j ks) ts) j 0) (share vault (get_or ks j d) r))
  unfolding with_record
  with_next [] ts j d h room = absurd (omega arith)
  with_next (k ∷ ks) [] j d h room = absurd (omega arith)
  with_next (k ∷ ks) (t ∷ ts) zero d h room = refl
  with_next (k ∷ ks) (t ∷ ts) (suc j) d h room = ap (λ (l : List ℕ). capped_sum t (share vault k r) ∷ l) (with_next ks ts j d (omega arith) (omega arith))

  module _ (c : is_counted vault r ≡ true) (ks : List (List ℕ)) (ts : List ℕ) (j : ℕ) (d : List ℕ) (h : j < length ks) (room : j < length ts) where
    -- a mint that the counted record has
    pub with_more : same_key (get_or ks j d) (mint_of r) ≡ true → (now : List ℕ) → now ≡ with_record vault r (take j ks) ts
        → set now j (capped_sum (get_or now j 0) (amount_of r)) ≡ with_record vault r (take (suc j) ks) ts
    with_more same now e =
        rw (e, with_next ks ts j d h room) (ap (set (with_record vault r (take j ks) ts) j) (sym (grows_counted r vault (get_or ks j d) _ c (same_key_turned _ _ ∙ same))))

    -- and another one
    pub with_same : same_key (get_or ks j d) (mint_of r) ≡ false → (now : List ℕ) → now ≡ with_record vault r (take j ks) ts → get_or ts j 0 < 2 ^ 64
        → now ≡ with_record vault r (take (suc j) ks) ts
    with_same other now e fits =
        let fit : get_or (with_record vault r (take j ks) ts) j 0 < 2 ^ 64 = rw (with_rest ks ts j) fits in
        rw (with_next ks ts j d h room, stays_other_mint r vault (get_or ks j d) _ fit (same_key_turned _ _ ∙ other)) (e ∙ sym (set-get_or (with_record vault r (take j ks) ts) j 0))

-- the first n sums, and zeros past the last
abbrev front : ℕ → List ℕ → List ℕ
front n xs = take n xs ++ replicate (n - length xs) 0

front_none : (x : ℕ) (xs : List ℕ) → front 0 (x ∷ xs) ≡ []
front_none x xs =
    let none : 0 - length (x ∷ xs) ≡ 0 = omega arith in
    rw none

front_more : (n x : ℕ) (xs : List ℕ) → front (suc n) (x ∷ xs) ≡ x ∷ front n xs
front_more n x xs =
    let less : suc n - length (x ∷ xs) ≡ n - length xs = omega arith in
    rw less

module _ (vault : List ℕ) where
  -- a mint's balance over some records
  abbrev of : List Record → List ℕ → ℕ
  of l k = balance vault k l

  front_zeros : (n : ℕ) (ks : List (List ℕ)) → front n (map (of []) ks) ≡ replicate n 0
  front_zeros n [] =
      let all : n - 0 ≡ n = omega arith in
      rw (take-nil {A = ℕ} n, all)
  front_zeros zero (k ∷ ks) = front_none (of [] k) (map (of []) ks)
  front_zeros (suc n) (k ∷ ks) = rw (front_more n (of [] k) (map (of []) ks), balance_nil vault k, front_zeros n ks)

  front_push : (n : ℕ) (ks : List (List ℕ)) (l : List Record) (r : Record)
      → with_record vault r ks (front n (map (of l) ks)) ≡ front n (map (of (l ++ (r ∷ []))) ks)
  unfolding with_record
  front_push n [] l r = refl
  front_push zero (k ∷ ks) l r =
      ap (with_record vault r (k ∷ ks)) (front_none (of l k) (map (of l) ks))
      ∙ sym (front_none (of (l ++ (r ∷ [])) k) (map (of (l ++ (r ∷ []))) ks))
  front_push (suc n) (k ∷ ks) l r =
      ap (with_record vault r (k ∷ ks)) (front_more n (of l k) (map (of l) ks))
      ∙ ap₂ (λ (x : ℕ) (xs : List ℕ). x ∷ xs) (sym (balance_push vault k l r)) (front_push n ks l r)
      ∙ sym (front_more n (of (l ++ (r ∷ [])) k) (map (of (l ++ (r ∷ []))) ks))

  -- the totals over no records
  pub none_laid : (ks : List (List ℕ)) → replicate 16 0 ≡ (sums_of (map (λ (k : List ℕ). balance vault k []) ks)).list
  unfolding sums_of
  none_laid ks = sym (front_zeros 16 ks)

  -- and over one record more
  pub laid_push : (ks : List (List ℕ)) (l : List Record) (r : Record)
      → with_record vault r ks (sums_of (map (λ (k : List ℕ). balance vault k l) ks)).list ≡ (sums_of (map (λ (k : List ℕ). balance vault k (l ++ (r ∷ []))) ks)).list
  unfolding sums_of
  laid_push ks l r = front_push 16 ks l r

-- the totals over the records that the first i views name
module _ (vault s : List ℕ) (ks : List (List ℕ)) (views : List RecordView) where
  abbrev pub laid : ℕ → List ℕ
  laid i = (sums_of (map (λ (k : List ℕ). balance vault k (records_in s (take i views))) ks)).list

  pub laid_next : (i : ℕ) (d : RecordView) → i < length views → with_record vault (record_at s (get_or views i d)) ks (laid i) ≡ laid (suc i)
  laid_next i d h =
      let more : records_in s (take (suc i) views) ≡ records_in s (take i views) ++ (record_at s (get_or views i d) ∷ []) = unfold records_in in rw (take-suc views i d h, map-append (record_at s) (take i views) (get_or views i d ∷ [])) in
      laid_push vault ks (records_in s (take i views)) (record_at s (get_or views i d))
      ∙ ap (λ (l : List Record). (sums_of (map (λ (k : List ℕ). balance vault k l) ks)).list) (sym more)
