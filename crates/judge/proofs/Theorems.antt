-- What is promised of judged calls beyond each function's contract.
-- Assumes nothing.
use mathlib.Core.Path.{◌≡◌, refl, sym, ap, subst, ◌∙◌}
use mathlib.Core.Bool.{Bool, true, false, not, cond, ◌&&◌}
use mathlib.Core.List.{List, [], ◌∷◌, map}
use mathlib.Core.Option.{Option, none, some}
use Prim.Native.Nat.{ℕ, ◌≤◌}
use native.Mathlib.Omega.{arith}
use borrow.Author.Tests.{le-leb}
use lib.Dec.{eqb, ltb, lit≤}
use lib.ListN.{length, length-append, length-map}
use Rattle.answer.specs.declared.Refusal.{Refusal}
use Rattle.answer.specs.declared.Refusal.TheVariants.{InvalidInstructionData, ActionProgramNotWhitelisted, ActionProgramBlacklisted, ActionSolMaxPerTxExceeded, ActionSolLimitExceeded, ActionSolRecurringLimitExceeded, ActionTokenMaxPerTxExceeded, ActionTokenLimitExceeded, ActionTokenRecurringLimitExceeded, SessionTokenAuthorityChanged, BadTable}
use Rattle.answer.specs.Numbers.{Answer, number_of, refusal_number, accepts, first_refusal, refuse_if, in_table}
use Rattle.answer.specs.Refusable.{Refusable, Ok, Err}
use Rattle.answer.proofs.Laws.{first_passes, first_refuses, no_rule, EachAccepts, each_accepts}
use Rattle.number.specs.Number.{Bytes}
use Rattle.action.specs.Action.{Action, sol_limit, sol_recurring_limit, sol_max_per_tx, token_limit, token_recurring_limit, token_max_per_tx}
use Rattle.change.specs.declared.Change.{Change}
use Rattle.change.specs.Changed.{changed}
use Rattle.change.proofs.Changing.{changed-length}
use Rattle.region.specs.Region.{glue_one, glue}
use Rattle.region.proofs.Gluing.{length-glue_one, bytes_glued}
use Rattle.creation.specs.Creation.{how_often, kinds_of, stored_actions}
use Rattle.creation.proofs.Theorems.{stored_is_glued, stored_is_formed, stored_is_regular, glued_is_stored, formed_changed, regular_changed}
use Rattle.mints.specs.Mints.{is_listed}
use Rattle.compact.specs.Compact.{Instruction, Read, decode}
use Rattle.account.specs.Record.{Record}
use Rattle.table.specs.Table.{cut_table}
use Rattle.table.proofs.Theorems.{every_refusal_of_a_table_is_13}
use Rattle.lookup.specs.Indexes.{key_among}
use Rattle.limit.specs.Limit.{Charge, refusal_of, breaks, rule_answer, change_of, settled}
use Rattle.charge.specs.declared.Class.{Class}
use Rattle.charge.specs.declared.Class.TheVariants.{Sol, Tokens}
use Rattle.charge.specs.Classes.{of_class, class_answer}
use Rattle.charge.proofs.Accepting.{EachKept, each_kept}
use Rattle.programs.specs.Programs.{in_live_list, lists_answer, program_answer, programs_answer}
use Rattle.freeze.specs.Freeze.{all_frozen}
use Rattle.judge.specs.Judge.{Call, answer_of, records_before, records_after, program_indexes, instructions_answer, actions_of, amount_for, charged, soundness, rules, steps, judged, region_after}
use Rattle.judge.proofs.Steps.{refused_keeps, stored_refusal}

-- a refusal leaves the region as it was
pub a_refusal_leaves_the_region : (region : List ℕ) (call : Call) → accepts (judged region call) ≡ false → region_after region call ≡ region
a_refusal_leaves_the_region region call e = refused_keeps region call e

-- ---- every number answered is in the table, and none of a stored region is above 13

module _ (most : ℕ) (enough : 13 ≤ most) where
  abbrev Listed : Answer → Type 0
  Listed a = number_of a ≤ most

  abbrev AllListed : List Answer → Type 0
  AllListed [] = Unit {0}
  AllListed (a ∷ l) = Listed a × AllListed l

  first_listed : (l : List Answer) → AllListed l → Listed (first_refusal l)
  first_listed [] h = subst Listed (sym no_rule) (omega arith)
  first_listed (a ∷ l) h = go (accepts a) refl (first_listed l h.1)
    where
      go : (t : Bool) → accepts a ≡ t → Listed (first_refusal l) → Listed (first_refusal (a ∷ l))
      go true e more = subst Listed (sym (first_passes a l e)) more
      go false e more = subst Listed (sym (first_refuses a l e)) h.0

  each_listed : {A : Type 0} (f : A → Answer) → ((x : A) → Listed (f x)) → (l : List A) → AllListed (map f l)
  each_listed f h [] = tt
  each_listed f h (x ∷ l) = (h x, each_listed f h l)

  refusal_listed : (kind : ℕ) → Listed (refusal_of kind)
  unfolding refusal_of
  refusal_listed kind = among (eqb kind sol_limit) (eqb kind sol_recurring_limit) (eqb kind sol_max_per_tx) (eqb kind token_limit) (eqb kind token_recurring_limit) (eqb kind token_max_per_tx)
    where
      among : (a b c d e f : Bool)
          → Listed (cond a (Err ActionSolLimitExceeded) (cond b (Err ActionSolRecurringLimitExceeded) (cond c (Err ActionSolMaxPerTxExceeded) (cond d (Err ActionTokenLimitExceeded) (cond e (Err ActionTokenRecurringLimitExceeded) (cond f (Err ActionTokenMaxPerTxExceeded) (Ok tt)))))))
      among true b c d e f = omega arith
      among false true c d e f = omega arith
      among false false true d e f = omega arith
      among false false false true e f = omega arith
      among false false false false true f = omega arith
      among false false false false false true = omega arith
      among false false false false false false = omega arith

  rule_listed : (broken : Bool) (r : Refusal) → refusal_number r ≤ most → Listed (refuse_if broken r)
  rule_listed true r h = h
  rule_listed false r h = omega arith

  class_listed : (class : Class) (slot : ℕ) (cs : List Charge) → Listed (class_answer class slot cs)
  unfolding class_answer rule_answer
  class_listed class slot cs = first_listed _ (each_listed _ one cs)
    where
      one : (c : Charge) → Listed (cond (of_class class c.act.kind) (rule_answer slot c) (Ok tt))
      one c = go (of_class class c.act.kind)
        where
          go : (b : Bool) → Listed (cond b (rule_answer slot c) (Ok tt))
          go true = kept_or_refused (breaks slot c.amount c.act)
            where
              kept_or_refused : (t : Bool) → Listed (cond t (refusal_of c.act.kind) (Ok tt))
              kept_or_refused true = refusal_listed c.act.kind
              kept_or_refused false = omega arith
          go false = omega arith

  lists_listed : (slot : ℕ) (l : List Action) (key : List ℕ) → Listed (lists_answer slot l key)
  unfolding lists_answer
  lists_listed slot l key =
      first_listed _ (
        rule_listed (ltb 0 (how_often 10 (kinds_of l)) && not (in_live_list 10 slot key l)) ActionProgramNotWhitelisted (omega arith),
        (rule_listed (in_live_list 11 slot key l) ActionProgramBlacklisted (omega arith), tt),
      )

  program_listed : (slot : ℕ) (l : List Action) (records : List Record) (program : ℕ) → Listed (program_answer slot l records program)
  unfolding program_answer
  program_listed slot l records program =
      first_listed _ (rule_listed (not (ltb program (length records))) InvalidInstructionData (omega arith), (lists_listed slot l (key_among records program), tt))

  programs_listed : (slot : ℕ) (l : List Action) (records : List Record) (programs : List ℕ) → Listed (programs_answer slot l records programs)
  unfolding programs_answer
  programs_listed slot l records programs = first_listed _ (each_listed (program_answer slot l records) (program_listed slot l records) programs)

  table_listed : (s : List ℕ) → Listed (answer_of (cut_table s))
  table_listed s = go (cut_table s) refl
    where
      go : (x : Refusable (List Record)) → cut_table s ≡ x → Listed (answer_of x)
      go (Ok l) e = omega arith
      go (Err r) e = subst (λ (q : Refusal). refusal_number q ≤ most) (sym (every_refusal_of_a_table_is_13 s r e)) (omega arith)

  read_listed : (o : Option (Read (List Instruction))) → Listed (instructions_answer o)
  read_listed none = omega arith
  read_listed (some d) = omega arith

  steps_listed : (region : List ℕ) (call : Call) → Listed (answer_of (stored_actions region)) → AllListed (steps region call)
  unfolding steps soundness rules
  steps_listed region call stored =
      (rule_listed (not (eqb (length call.vault) 32)) BadTable enough, (table_listed call.before, (table_listed call.after, (read_listed (decode call.instructions), (stored, ruled (actions_of (stored_actions region)))))))
    where
      ruled : (l : List Action) → AllListed (elim l [ [] ↦ [] | a ∷ k ↦ rules call (a ∷ k) ])
      ruled [] = tt
      ruled (a ∷ k) = (programs_listed call.slot (a ∷ k) (records_before call) (program_indexes (decode call.instructions)), (rule_listed (not (all_frozen call.vault (λ (mint : List ℕ). is_listed mint (a ∷ k)) (records_after call) (records_before call))) SessionTokenAuthorityChanged (omega arith), (class_listed Sol call.slot (charged call (a ∷ k)), (class_listed Tokens call.slot (charged call (a ∷ k)), tt))))

  answer_listed : (region : List ℕ) (call : Call) → Listed (answer_of (stored_actions region)) → Listed (judged region call)
  unfolding judged
  answer_listed region call stored = first_listed (steps region call) (steps_listed region call stored)

region_listed : (s : List ℕ) → number_of (answer_of (stored_actions s)) ≤ 16
region_listed s = go (stored_actions s) refl
  where
    go : (x : Refusable (List Action)) → stored_actions s ≡ x → number_of (answer_of x) ≤ 16
    go (Ok l) e = omega arith
    go (Err r) e = subst (λ (q : Refusal). refusal_number q ≤ 16) (sym (stored_refusal s r e)) (omega arith)

-- every number answered is in the table
pub every_number_answered_is_in_the_table : (region : List ℕ) (call : Call) → in_table (number_of (judged region call)) ≡ true
unfolding in_table
every_number_answered_is_in_the_table region call = le-leb _ _ (answer_listed 16 (lit≤ tt) region call (region_listed region))

-- a region in stored form is never answered with a number above 13, so not with 15
pub a_stored_region_is_not_refused_as_such : (region : List ℕ) (call : Call) {l : List Action} → stored_actions region ≡ Ok l → number_of (judged region call) ≤ 13
a_stored_region_is_not_refused_as_such region call e =
    answer_listed 13 (lit≤ tt) region call (subst (λ (x : Refusable (List Action)). number_of (answer_of x) ≤ 13) (sym e) (omega arith))

-- only a region in stored form is accepted
pub what_is_accepted_is_in_stored_form : (region : List ℕ) (call : Call) → accepts (judged region call) ≡ true → (l : List Action) × (stored_actions region ≡ Ok l)
unfolding judged steps soundness
what_is_accepted_is_in_stored_form region call h =
    go (stored_actions region) refl (each_accepts (steps region call) h).1.1.1.1.0
  where
    go : (x : Refusable (List Action)) → stored_actions region ≡ x → accepts (answer_of x) ≡ true → (l : List Action) × (stored_actions region ≡ Ok l)
    go (Ok l) e accepted = (l, e)
    go (Err r) e accepted = absurd (let n : ◌≡◌ {A = ℕ} 0 1 = cc in omega arith)

-- ---- what an accepted call makes of a region's actions

-- what it writes into one
unfoldable pub writes : Call → Action → Change
writes call a = change_of call.slot (record { act = a; amount = amount_for call a })

module _ (call : Call) where
  settled_is_changed : (l : List Action) → map (settled call.slot) (charged call l) ≡ map (λ (a : Action). changed (writes call a) a) l
  unfolding charged settled writes
  settled_is_changed [] = refl
  settled_is_changed (a ∷ l) = ap (λ (k : List Action). changed (writes call a) a ∷ k) (settled_is_changed l)

  as_long : (l : List Action) → length (glue (map (λ (a : Action). changed (writes call a) a) l)) ≡ length (glue l)
  unfolding glue
  as_long [] = refl
  as_long (a ∷ l) =
      let b = changed (writes call a) a in
      length-append (glue_one b) _
      ∙ rw (length-glue_one b, changed-length (writes call a) a, as_long l) (sym (length-append (glue_one a) (glue l) ∙ rw (length-glue_one a)))

  module _ (region : List ℕ) {l : List Action} (stored : stored_actions region ≡ Ok l) (h : accepts (judged region call) ≡ true) where
    -- the region is its changed actions, glued
    pub region_written : region_after region call ≡ glue (map (λ (a : Action). changed (writes call a) a) l)
    unfolding region_after
    region_written =
        ap (λ (t : Bool). cond t (glue (map (settled call.slot) (charged call (actions_of (stored_actions region))))) region) h
        ∙ ap (λ (x : Refusable (List Action)). glue (map (settled call.slot) (charged call (actions_of x)))) stored
        ∙ ap glue (settled_is_changed l)

    -- the stored form is kept: those are its actions
    pub an_accepted_call_keeps_the_stored_form : Bytes region → stored_actions (region_after region call) ≡ Ok (map (λ (a : Action). changed (writes call a) a) l)
    an_accepted_call_keeps_the_stored_form bytes =
        let (regular, few) = stored_is_regular region l bytes stored in
        let form = (stored_is_formed region l stored).1 in
        ap stored_actions region_written
        ∙ glued_is_stored (map (λ (a : Action). changed (writes call a) a) l) (regular_changed (writes call) l regular) (formed_changed (writes call) l regular form)
        (rw (length-map l (λ (a : Action). changed (writes call a) a)) few)

    pub an_accepted_call_keeps_bytes : Bytes region → Bytes (region_after region call)
    an_accepted_call_keeps_bytes bytes =
        subst Bytes (sym region_written)
        (bytes_glued (map (λ (a : Action). changed (writes call a) a) l) (regular_changed (writes call) l (stored_is_regular region l bytes stored).0))

    pub an_accepted_call_keeps_the_length : Bytes region → length (region_after region call) ≡ length region
    an_accepted_call_keeps_the_length bytes = ap length region_written ∙ as_long l ∙ ap length (stored_is_glued region l bytes stored)

    -- each charge keeps its rule
    pub accepted_charges_keep_their_rules : EachKept call.slot (charged call l)
    unfolding judged steps soundness rules charged
    accepted_charges_keep_their_rules =
        let each = each_accepts (steps region call) h in
        ruled l (subst (λ (x : Refusable (List Action)). EachAccepts (elim (actions_of x) [ [] ↦ [] | a ∷ k ↦ rules call (a ∷ k) ])) stored each.1.1.1.1.1)
      where
        ruled : (k : List Action) → EachAccepts (elim k [ [] ↦ [] | a ∷ m ↦ rules call (a ∷ m) ]) → EachKept call.slot (charged call k)
        ruled [] e = tt
        ruled (a ∷ m) e = each_kept call.slot (charged call (a ∷ m)) e.1.1.0 e.1.1.1.0
