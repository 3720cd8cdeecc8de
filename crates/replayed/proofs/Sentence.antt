-- What a replay prints are the numbers of the bursar's run of its calls on its opening region, so the bursar's sentence holds of it.
-- Assumes nothing.
use Prim.Native.Nat.{ℕ, zero, suc, ◌+◌, ◌<◌, ◌≤◌}
use mathlib.Core.Path.{◌≡◌, refl, sym, ap, subst, ◌∙◌}
use mathlib.Core.Bool.{Bool, true, false, cond}
use mathlib.Core.List.{List, [], ◌∷◌, ◌++◌}
use mathlib.Core.Option.{some}
use native.Mathlib.Nat.{zero-add}
use native.Mathlib.Omega.{arith}
use borrow.Author.Tests.{le-leb}
use lib.Dec.{eqb}
use lib.ListN.{length, drop}
use Rattle.answer.specs.Numbers.{number_of, accepts, accepted}
use Rattle.answer.proofs.Laws.{accepts_by_number, accepted_is}
use Rattle.number.specs.Number.{Bytes, highest, number_at}
use Rattle.number.proofs.Laws.{bytes_take, bytes_drop, read_below}
use Rattle.action.specs.Fields.{remaining, limit}
use Rattle.creation.specs.Creation.{creation, how_often}
use Rattle.judge.specs.Judge.{Call, judged, region_after}
use Rattle.frame.specs.declared.CallView.{CallView}
use Rattle.frame.specs.declared.Front.{Front}
use Rattle.frame.specs.declared.Front.TheVariants.{Whole, Long, Short}
use Rattle.frame.specs.Frame.{region_length_size, call_head, opening_size, opening_region, parts_length, whole_call, front_of}
use Rattle.frame.proofs.Theorems.{call_is_there}
use Rattle.framed.specs.Framed.{call_in}
use Rattle.bursar.specs.Run.{Created, Slotted, ours, after_run, numbers_of, Fund, taken}
use Rattle.bursar.specs.Limits.{limit_of, recurring_of, taken_at}
use Rattle.bursar.proofs.Theorems.{what_is_left_and_what_was_taken_are_the_opening, a_window_takes_at_most_its_limit}
use Rattle.replayed.specs.Replay.{ReadCalls, calls_up_to, calls_in, Line, region_line, call_line, cut_line, end_line, call_lines, lines_from, replay_of}
use Rattle.replayed.specs.Feeding.{region_left}
use Rattle.replayed.proofs.Cutting.{up_to_whole, up_to_no_call}
use Rattle.replayed.specs.Printed.{run_of, Opened, numbered, printed}

-- the lines of some calls by the numbers that a run of them is answered with
lines_are_numbered : (l : List Call) (held : List ℕ) (calls accepted' : ℕ) (is_cut : Bool) → call_lines held calls accepted' is_cut l
    ≡ numbered calls (numbers_of ours held l) ++ (cond is_cut (cut_line ∷ []) [] ++ (end_line (accepted' + how_often accepted (numbers_of ours held l)) ∷ []))
unfolding call_lines numbered numbers_of how_often
lines_are_numbered [] held calls accepted' true = ap (λ (n : ℕ). cut_line ∷ end_line n ∷ []) (omega arith)
lines_are_numbered [] held calls accepted' false = ap (λ (n : ℕ). end_line n ∷ []) (omega arith)
lines_are_numbered (c ∷ l) held calls accepted' is_cut =
    let one : ℕ = cond (accepts (judged held c)) 1 0 in
    let rest = how_often accepted (numbers_of ours (region_after held c) l) in
    let counted : cond (eqb (number_of (judged held c)) accepted) 1 0 ≡ one = ap (λ (t : Bool). cond t 1 0) (accepts_by_number (judged held c)) in
    let sum : accepted' + one + rest ≡ accepted' + (cond (eqb (number_of (judged held c)) accepted) 1 0 + rest) = omega (arith, counted) in
    ap (λ (k : List Line). call_line (calls + 1) (number_of (judged held c)) ∷ k)
    (lines_are_numbered l (region_after held c) (calls + 1) (accepted' + one) is_cut
    ∙ ap (λ (n : ℕ). numbered (calls + 1) (numbers_of ours (region_after held c) l) ++ (cond is_cut (cut_line ∷ []) [] ++ (end_line n ∷ []))) sum)

-- the slot of a call that was read is a number of 64 bits
slot_fits : (s : List ℕ) (c : CallView) → Bytes s → front_of s ≡ Whole c → (call_in s c).slot ≤ highest
unfolding whole_call highest
slot_fits s c bytes front =
    let is : c.slot ≡ number_at 8 s 0 = ap (λ (k : CallView). k.slot) (call_is_there s c front).whole in
    omega (arith, read_below 8 s 0 bytes)

slots_fit : (most : ℕ) (s : List ℕ) → Bytes s → Slotted (calls_up_to most s).list
unfolding calls_up_to
slots_fit zero s bytes = tt
slots_fit (suc most) s bytes = go (slots_fit most (drop (call_head + parts_length s) s) (bytes_drop (call_head + parts_length s) s bytes)) (front_of s) refl
  where
    go : Slotted (calls_up_to most (drop (call_head + parts_length s) s)).list → (f : Front) → front_of s ≡ f → Slotted (calls_up_to (suc most) s).list
    go rest (Whole c) front = subst (λ (k : ReadCalls). Slotted k.list) (sym (up_to_whole most s c front)) (slot_fits s c bytes front, rest)
    go rest Long front = subst Slotted (sym (up_to_no_call most s Long front (λ c e. let z : ◌≡◌ {A = ℕ} 0 1 = cc in omega arith))) tt
    go rest Short front = subst Slotted (sym (up_to_no_call most s Short front (λ c e. let z : ◌≡◌ {A = ℕ} 0 1 = cc in omega arith))) tt

module _ (input : List ℕ) (opened : Opened input) where
  -- the opening region is one that creation accepted
  pub the_opening_region_is_created : Created (opening_region input)
  unfolding opening_region
  the_opening_region_is_created =
      (bytes_take (number_at 2 input 0) (drop region_length_size input) (bytes_drop region_length_size input opened.bytes), opened.accepts_it)

  pub the_calls_have_slots_of_64_bits : Slotted (run_of input).list
  unfolding calls_in
  the_calls_have_slots_of_64_bits = slots_fit (length (drop (opening_size input) input)) (drop (opening_size input) input) (bytes_drop (opening_size input) input opened.bytes)

  -- what is printed are the numbers of the run of the calls on the opening region, and how many accepted
  pub a_replay_prints_the_numbers_of_a_run : replay_of input ≡ printed (run_of input) (numbers_of ours (opening_region input) (run_of input).list)
  unfolding replay_of lines_from printed
  a_replay_prints_the_numbers_of_a_run =
      let number_is : number_of (creation (opening_region input)) ≡ accepted = ap number_of (accepted_is _ opened.accepts_it) in
      rw (le-leb _ _ opened.all_there, opened.accepts_it, number_is)
      (ap (λ (k : List Line). region_line accepted ∷ k) (lines_are_numbered (run_of input).list (opening_region input) 0 0 (run_of input).is_cut ∙ rw zero-add))

  -- and the region that is left is the one after that run
  pub a_replay_leaves_the_region_after_the_run : region_left input ≡ after_run ours (opening_region input) (run_of input).list
  unfolding region_left
  a_replay_leaves_the_region_after_the_run = rw (le-leb _ _ opened.all_there, opened.accepts_it)

  -- the bursar's sentence of a replay: what is left at the end and what the calls that were answered with 0 took are the opening amount
  pub in_a_replay_what_is_left_and_what_was_taken_are_the_opening : (fund : Fund) (amounts : List ℕ) → limit_of fund (opening_region input) ≡ some amounts
      → (end : List ℕ) × (limit_of fund (region_left input) ≡ some end) × (remaining end + taken fund ours (opening_region input) (run_of input).list ≡ remaining amounts)
  in_a_replay_what_is_left_and_what_was_taken_are_the_opening fund amounts is =
      rw a_replay_leaves_the_region_after_the_run
      (what_is_left_and_what_was_taken_are_the_opening (opening_region input) (run_of input).list fund amounts the_opening_region_is_created is)

  -- and within one window at most its limit is taken
  pub in_a_replay_a_window_takes_at_most_its_limit : (fund : Fund) (amounts : List ℕ) → recurring_of fund (opening_region input) ≡ some amounts
      → limit amounts < highest → (slot : ℕ) → taken_at slot fund ours (opening_region input) (run_of input).list ≤ limit amounts
  in_a_replay_a_window_takes_at_most_its_limit fund amounts is below slot =
      a_window_takes_at_most_its_limit (opening_region input) (run_of input).list fund amounts the_opening_region_is_created the_calls_have_slots_of_64_bits is below slot
