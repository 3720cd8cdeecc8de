-- Laws of the steps: the first refusal decides, and what was cut is what the steps speak of.
-- Assumes nothing.
use mathlib.Core.Path.{◌≡◌, refl, sym, ap, ap₂, ◌∙◌}
use mathlib.Core.Bool.{Bool, true, false, not, cond}
use mathlib.Core.Logic.{inl}
use mathlib.Core.List.{List, [], ◌∷◌, ◌++◌, map}
use Prim.Native.Nat.{ℕ, ◌-◌, ◌<◌, ◌≤◌}
use native.Mathlib.Omega.{arith}
use borrow.Author.Tests.{eq-eqb, ne_eqb}
use lib.ListN.{length, replicate, length-append, length-map}
use lib.Seq.{take_all}
use Rattle.std.specs.Result.{result_unwrap_or}
use Rattle.arrayvec.specs.ArrayVec.{ArrayVec}
use Rattle.answer.specs.declared.Refusal.{Refusal}
use Rattle.answer.specs.declared.Refusal.TheVariants.{SessionTokenAuthorityChanged, BadTable, BadRegion}
use Rattle.answer.specs.Numbers.{Answer, accepts, first_refusal, refuse_if}
use Rattle.answer.specs.Refusable.{Refusable, Ok, Err}
use Rattle.answer.proofs.Lent.{refused_lent, given_lent}
use Rattle.answer.proofs.Laws.{first_ok, first_err, rule_holds, rule_broken, no_rule, only, first-append}
use Rattle.number.specs.Number.{Bytes}
use Rattle.keys.specs.declared.Keys.{Keys}
use Rattle.keys.specs.Views.{is_among, keys_in}
use Rattle.action.specs.declared.ActionView.{ActionView}
use Rattle.action.specs.Action.{Action}
use Rattle.row.specs.Views.{actions_in}
use Rattle.region.specs.Region.{cut, glue, most_actions}
use Rattle.region.specs.Views.{action_views_from, views_of}
use Rattle.region.proofs.Cuts.{cut_cuts, cut_at_most}
use Rattle.creation.specs.Creation.{in_stored_form, stored_actions}
use Rattle.creation.specs.Views.{stored_answer}
use Rattle.creation.proofs.Forms.{answer_not_cut, stored_given, stored_not_given, stored_refused}
use Rattle.creation.proofs.Theorems.{stored_is_formed, stored_is_glued}
use Rattle.mints.specs.Mints.{is_listed}
use Rattle.mints.specs.Views.{listed_mints}
use Rattle.mints.proofs.Held.{listed_mints_hold}
use Rattle.compact.specs.Compact.{decode}
use Rattle.compact.specs.Views.{reading, parsed_programs}
use Rattle.compact.proofs.Indexes.{programs_given, programs_refused}
use Rattle.account.specs.Record.{Record}
use Rattle.table.specs.Table.{cut_table}
use Rattle.balance.specs.Views.{sums_of}
use Rattle.limit.specs.Limit.{Charge, settled}
use Rattle.charge.specs.declared.Class.TheVariants.{Sol, Tokens}
use Rattle.charge.specs.Classes.{class_answer}
use Rattle.charge.specs.Views.{charges, charges_at, settled_at}
use Rattle.charge.proofs.Charging.{charges-map, settle_end}
use Rattle.charge.proofs.Settling.{settle_glued}
use Rattle.programs.specs.Programs.{programs_answer}
use Rattle.freeze.specs.Freeze.{all_frozen}
use Rattle.freeze.proofs.Freezing.{frozen_alike}
use Rattle.outflow.specs.Outflow.{decrease, amount_from}
use Rattle.judge.specs.Judge.{Call, answer_of, records_before, records_after, program_indexes, instructions_answer, actions_of, amount_for, charged, soundness, rules, steps, judged, region_after}
use Rattle.judge.specs.Views.{frozen_from, checks_from, limits_from, rules_from}

-- ---- steps 5 to 8, from what was cut

module _ (slot : ℕ) (vault : List ℕ) (before after : List Record) (programs : List ℕ) (mints : Keys) (l : List Action) where
  pub checks_refused : {r : Refusal} → programs_answer slot l before programs ≡ Err r → checks_from slot vault before after programs mints l ≡ Err r
  unfolding checks_from
  checks_refused e = first_err _ _ e

  module _ {u : Unit {0}} (e : programs_answer slot l before programs ≡ Ok u) where
    pub checks_thawed : all_frozen vault (λ (mint : List ℕ). is_among mint (keys_in mints)) after before ≡ false → checks_from slot vault before after programs mints l ≡ Err SessionTokenAuthorityChanged
    unfolding checks_from frozen_from
    checks_thawed f = first_ok _ _ e ∙ rule_broken _ _ _ (ap not f)

    pub checks_passed : all_frozen vault (λ (mint : List ℕ). is_among mint (keys_in mints)) after before ≡ true → checks_from slot vault before after programs mints l ≡ Ok tt
    unfolding checks_from frozen_from
    checks_passed f = first_ok _ _ e ∙ rule_holds _ _ _ (ap not f) ∙ no_rule

module _ (slot : ℕ) (cs : List Charge) where
  pub limits_refused : {r : Refusal} → class_answer Sol slot cs ≡ Err r → limits_from slot cs ≡ Err r
  unfolding limits_from
  limits_refused e = first_err _ _ e

  pub limits_decided : {u : Unit {0}} → class_answer Sol slot cs ≡ Ok u → limits_from slot cs ≡ class_answer Tokens slot cs
  unfolding limits_from
  limits_decided e = first_ok _ _ e ∙ only _

module _ (slot : ℕ) (vault : List ℕ) (before after : List Record) (programs : List ℕ) (cs : List Charge) where
  pub no_rules : (l : List Action) → length l ≤ 0 → rules_from slot vault before after programs cs l ≡ Ok tt
  unfolding rules_from
  no_rules [] h = refl
  no_rules (a ∷ l) h = absurd (let z : ◌≡◌ {A = ℕ} 0 1 = omega arith in omega arith)

  some_rules : (l : List Action) → 0 < length l
      → rules_from slot vault before after programs cs l ≡ first_refusal (checks_from slot vault before after programs (listed_mints l) l ∷ limits_from slot cs ∷ [])
  unfolding rules_from
  some_rules [] h = absurd (let z : ◌≡◌ {A = ℕ} 0 1 = omega arith in omega arith)
  some_rules (a ∷ l) h = refl

  module _ (l : List Action) (h : 0 < length l) where
    pub rules_unchecked : {r : Refusal} → checks_from slot vault before after programs (listed_mints l) l ≡ Err r → rules_from slot vault before after programs cs l ≡ Err r
    rules_unchecked e = some_rules l h ∙ first_err _ _ e

    pub rules_checked : {u : Unit {0}} → checks_from slot vault before after programs (listed_mints l) l ≡ Ok u → rules_from slot vault before after programs cs l ≡ limits_from slot cs
    rules_checked e = some_rules l h ∙ first_ok _ _ e ∙ only _

-- ---- what was cut

pub none_settled : (slot : ℕ) (views : List ActionView) (amounts s : List ℕ) → length views ≤ 0 → settled_at slot views amounts s ≡ s
none_settled slot views amounts s few = settle_end slot views amounts s (inl (omega arith))

pub records_named : (call : Call) (records : List Record) → cut_table call.before ≡ Ok records → records ≡ records_before call
unfolding records_before
records_named call records e = rw e

pub records_after_lem : (call : Call) (records : List Record) → cut_table call.after ≡ Ok records → records ≡ records_after call
unfolding records_after
records_after_lem call records e = rw e

-- the program indexes that were read are those of the list
pub programs_read : (s : List ℕ) (programs : ArrayVec ℕ) → parsed_programs (reading s) ≡ Ok programs
    → (programs.items ≡ program_indexes (decode s)) × (instructions_answer (decode s) ≡ Ok tt)
programs_read s programs h = let (d, is, same) = programs_given s programs h in (rw is same, rw is)

pub programs_not_read : (s : List ℕ) (r : Refusal) → parsed_programs (reading s) ≡ Err r → instructions_answer (decode s) ≡ Err r
programs_not_read s r h = let (none, same) = programs_refused s r h in rw (none, same)

-- what is answered to the views of a region that was cut is the answer of its stored form
form_cut : (s : List ℕ) (views : ArrayVec ActionView) → views_of (cut most_actions s) ≡ Ok views → stored_answer (Ok tt) (actions_in s views.items) ≡ answer_of (stored_actions s)
unfolding stored_answer
form_cut s views e = go (in_stored_form (actions_in s views.items)) refl
  where
    go : (f : Bool) → in_stored_form (actions_in s views.items) ≡ f → refuse_if (not f) BadRegion ≡ answer_of (stored_actions s)
    go true k = rw (stored_given s views e k)
    go false k = rw (stored_not_given s views e k)

stored_cut : (s : List ℕ) (views : ArrayVec ActionView) → views_of (cut most_actions s) ≡ Ok views → {u : Unit {0}} → stored_answer (Ok tt) (actions_in s views.items) ≡ Ok u
    → stored_actions s ≡ Ok (actions_in s views.items)
unfolding stored_answer
stored_cut s views e {u} h = go (in_stored_form (actions_in s views.items)) refl h
  where
    go : (f : Bool) → in_stored_form (actions_in s views.items) ≡ f → refuse_if (not f) BadRegion ≡ Ok u → stored_actions s ≡ Ok (actions_in s views.items)
    go true k q = stored_given s views e k
    go false k q = absurd (let z : ◌≡◌ {A = ℕ} 0 1 = cc in omega arith)

-- and so it is of the list that a region was cut into, whether it was cut or not
module _ (s : List ℕ) (cutting : Answer) (views : ArrayVec ActionView) (said : cutting ≡ answer_of (views_of (cut most_actions s)))
    (lent : views ≡ result_unwrap_or (views_of (cut most_actions s)) (record { items = [] })) where
  pub region_form : stored_answer cutting (actions_in s views.items) ≡ answer_of (stored_actions s)
  region_form = go cutting said
    where
      go : (a : Answer) → a ≡ answer_of (views_of (cut most_actions s)) → stored_answer a (actions_in s views.items) ≡ answer_of (stored_actions s)
      go (Ok u) e = form_cut s views (given_lent _ _ _ e lent)
      go (Err r) e = answer_not_cut _ r ∙ sym (ap answer_of (stored_refused s r (refused_lent _ _ e)))

  pub region_stored : {u : Unit {0}} → stored_answer cutting (actions_in s views.items) ≡ Ok u
      → (views_of (cut most_actions s) ≡ Ok views) × (stored_actions s ≡ Ok (actions_in s views.items))
  region_stored {u} h = go cutting said h
    where
      go : (a : Answer) → a ≡ answer_of (views_of (cut most_actions s)) → stored_answer a (actions_in s views.items) ≡ Ok u
          → (views_of (cut most_actions s) ≡ Ok views) × (stored_actions s ≡ Ok (actions_in s views.items))
      go (Ok u) e k = let is_cut = given_lent _ _ _ e lent in (is_cut, stored_cut s views is_cut k)
      go (Err r) e k = absurd (let no = sym (answer_not_cut _ r) ∙ k in let z : ◌≡◌ {A = ℕ} 0 1 = cc in omega arith)

-- a region that is refused is refused with 15
pub stored_refusal : (s : List ℕ) (r : Refusal) → stored_actions s ≡ Err r → r ≡ BadRegion
unfolding stored_actions
stored_refusal s r e = go (cut most_actions s) refl
  where
    same : stored_actions s ≡ Err BadRegion → r ≡ BadRegion
    same q = let z = sym e ∙ q in cc

    form : (k : List Action) → cut most_actions s ≡ Ok k → (t : Bool) → in_stored_form k ≡ t → r ≡ BadRegion
    form k q true f = absurd (let z : ◌≡◌ {A = Refusable (List Action)} (Ok k) (Err r) = sym (rw (q, stored_actions) (rw f)) ∙ e in let n : ◌≡◌ {A = ℕ} 0 1 = cc in omega arith)
    form k q false f = same (rw (q, stored_actions) (rw f))

    go : (y : Refusable (List Action)) → cut most_actions s ≡ y → r ≡ BadRegion
    go (Ok k) q = form k q (in_stored_form k) refl
    go (Err t) q = same (rw (q, stored_actions))

-- ---- the charges

-- the amounts of a call's actions
abbrev amounts_for : Call → List Action → List ℕ
amounts_for call l =
    (sums_of (map (amount_from call.vault (records_before call) (records_after call) (decrease call.lamports_before call.lamports_after) call.gross) l)).list

-- those of at most sixteen actions are there
amounts_there : (call : Call) (l : List Action) → length l ≤ 16 → amounts_for call l ≡ map (amount_for call) l ++ replicate (16 - length l) 0
unfolding sums_of amount_for
amounts_there call l few =
    let all = map (amount_for call) l in
    let size : length all ≡ length l = simp length-map in
    rw (take_all 16 all (omega arith), size)

charges_are : (call : Call) (l : List Action) → length l ≤ 16 → charges l (amounts_for call l) ≡ charged call l
unfolding charged
charges_are call l few = ap (charges l) (amounts_there call l few) ∙ charges-map (amount_for call) l _

-- ---- the steps of a call

module _ (call : Call) where
  rules_are : (l : List Action)
      → frozen_from call.vault (records_before call) (records_after call) (listed_mints l) ≡ all_frozen call.vault (λ (mint : List ℕ). is_listed mint l) (records_after call) (records_before call)
      → rules_from call.slot call.vault (records_before call) (records_after call) (program_indexes (decode call.instructions)) (charged call l) l
      ≡ first_refusal (elim l [ [] ↦ [] | a ∷ k ↦ rules call (a ∷ k) ])
  unfolding rules_from checks_from limits_from rules
  rules_are [] e = sym no_rule
  rules_are (a ∷ k) e =
      let l = a ∷ k in
      let programs = programs_answer call.slot l (records_before call) (program_indexes (decode call.instructions)) in
      let freeze = refuse_if (not (all_frozen call.vault (λ (mint : List ℕ). is_listed mint l) (records_after call) (records_before call))) SessionTokenAuthorityChanged in
      rw e
      (sym (first-append (programs ∷ freeze ∷ []) (class_answer Sol call.slot (charged call l) ∷ class_answer Tokens call.slot (charged call l) ∷ [])))

-- ---- a region in stored form

module _ (region : List ℕ) (call : Call) (l : List Action) (stored : stored_actions region ≡ Ok l) where
  at_most_16 : length l ≤ 16
  at_most_16 = cut_at_most (cut_cuts most_actions region l (stored_is_formed region l stored).0)

  listed : frozen_from call.vault (records_before call) (records_after call) (listed_mints l)
      ≡ all_frozen call.vault (λ (mint : List ℕ). is_listed mint l) (records_after call) (records_before call)
  unfolding frozen_from
  listed =
      frozen_alike call.vault (λ (mint : List ℕ). is_among mint (keys_in (listed_mints l))) (λ (mint : List ℕ). is_listed mint l)
      (λ m. listed_mints_hold m l (stored_is_formed region l stored).1.lengths at_most_16)
      (records_after call) (records_before call)

  settled_are : Bytes region → settled_at call.slot (action_views_from 0 l) (amounts_for call l) region ≡ glue (map (settled call.slot) (charged call l))
  settled_are bytes =
      let amounts = amounts_for call l in
      let few = at_most_16 in
      let long : length l ≤ length amounts = rw (amounts_there call l few) (simp (length-append, length-map) (omega arith)) in
      ap (settled_at call.slot (action_views_from 0 l) amounts) (sym (stored_is_glued region l bytes stored))
      ∙ settle_glued call.slot l amounts long
      ∙ ap (λ (cs : List Charge). glue (map (settled call.slot) cs)) (charges_are call l few)

-- ---- the whole call

module _ (region : List ℕ) (call : Call) where
  -- a refusal leaves the region as it was
  pub refused_keeps : accepts (judged region call) ≡ false → region_after region call ≡ region
  unfolding region_after
  refused_keeps e = rw e

  -- what an early refusal gives
  refuses : {r : Refusal} → judged region call ≡ Err r → (Err r ≡ judged region call) × (region ≡ region_after region call)
  refuses e = (sym e, sym (refused_keeps (ap accepts e)))

  pub vault_refused : (length call.vault ≡ 32 → ⊥) → (Err BadTable ≡ judged region call) × (region ≡ region_after region call)
  unfolding judged steps soundness
  vault_refused h = refuses (rule_broken _ _ _ (ap not (ne_eqb _ _ h)))

  module _ (v : length call.vault ≡ 32) where
    pub before_refused : {r : Refusal} → cut_table call.before ≡ Err r → (Err r ≡ judged region call) × (region ≡ region_after region call)
    unfolding judged steps soundness
    before_refused h = refuses (rule_holds _ _ _ (ap not (eq-eqb _ _ v)) ∙ first_err _ _ (ap answer_of h))

    module _ {had : List Record} (b : cut_table call.before ≡ Ok had) where
      pub after_refused : {r : Refusal} → cut_table call.after ≡ Err r → (Err r ≡ judged region call) × (region ≡ region_after region call)
      unfolding judged steps soundness
      after_refused h = refuses (rule_holds _ _ _ (ap not (eq-eqb _ _ v)) ∙ first_ok _ _ (ap answer_of b) ∙ first_err _ _ (ap answer_of h))

      module _ {has : List Record} (a : cut_table call.after ≡ Ok has) where
        pub instructions_refused : {r : Refusal} → instructions_answer (decode call.instructions) ≡ Err r → (Err r ≡ judged region call) × (region ≡ region_after region call)
        unfolding judged steps soundness
        instructions_refused h =
            refuses (rule_holds _ _ _ (ap not (eq-eqb _ _ v)) ∙ first_ok _ _ (ap answer_of b) ∙ first_ok _ _ (ap answer_of a) ∙ first_err _ _ h)

        module _ {i : Unit {0}} (is : instructions_answer (decode call.instructions) ≡ Ok i) where
          pub region_refused : {r : Refusal} → answer_of (stored_actions region) ≡ Err r → (Err r ≡ judged region call) × (region ≡ region_after region call)
          unfolding judged steps soundness
          region_refused h =
              refuses (rule_holds _ _ _ (ap not (eq-eqb _ _ v)) ∙ first_ok _ _ (ap answer_of b) ∙ first_ok _ _ (ap answer_of a) ∙ first_ok _ _ is ∙ first_err _ _ h)

          module _ {l : List Action} (stored : stored_actions region ≡ Ok l) where
            judged_soundly : judged region call ≡ first_refusal (elim l [ [] ↦ [] | a ∷ k ↦ rules call (a ∷ k) ])
            unfolding judged steps soundness
            judged_soundly =
                rule_holds _ _ _ (ap not (eq-eqb _ _ v)) ∙ first_ok _ _ (ap answer_of b) ∙ first_ok _ _ (ap answer_of a) ∙ first_ok _ _ is
                ∙ first_ok _ _ (ap answer_of stored)
                ∙ ap (λ (x : Refusable (List Action)). first_refusal (elim (actions_of x) [ [] ↦ [] | a ∷ k ↦ rules call (a ∷ k) ])) stored

            -- what is answered and written of what was cut is what the call answers and writes
            pub judged-cut : Bytes region → (views : List ActionView) → views ≡ action_views_from 0 l → (k : List Action) → actions_in region views ≡ k → k ≡ l
                → (vault : List ℕ) (before after : List Record) (sol gross : ℕ) → vault ≡ call.vault → before ≡ records_before call → after ≡ records_after call
                → sol ≡ decrease call.lamports_before call.lamports_after → gross ≡ call.gross
                → (programs : List ℕ) → programs ≡ program_indexes (decode call.instructions)
                → (amounts : List ℕ) → amounts ≡ (sums_of (map (amount_from vault before after sol gross) k)).list → (answered : Answer) (out : List ℕ)
                → answered ≡ rules_from call.slot vault before after programs (charges_at region views amounts) k
                → out ≡ cond (accepts answered) (settled_at call.slot views amounts region) region
                → (answered ≡ judged region call) × (out ≡ region_after region call)
            unfolding charges_at region_after
            judged-cut bytes views laid k named is vault before after sol gross ev eb ea es eg programs ep amounts em answered out said wrote =
                let have : amounts ≡ amounts_for call l = em ∙ rw (is, ev, eb, ea, es, eg) in
                let cs : charges_at region views amounts ≡ charged call l = rw (named, is, have) (charges_are call l (at_most_16 region call l stored)) in
                let told : rules_from call.slot vault before after programs (charges_at region views amounts) k
                ≡ rules_from call.slot call.vault (records_before call) (records_after call) (program_indexes (decode call.instructions)) (charged call l) l =
                rw (cs, is, ev, eb, ea, ep) in
                let same : answered ≡ judged region call = said ∙ told ∙ rules_are call l (listed region call l stored) ∙ sym judged_soundly in
                let settles : settled_at call.slot views amounts region ≡ glue (map (settled call.slot) (charged call l)) =
                rw (laid, have) (settled_are region call l stored bytes) in
                let after_all : settled_at call.slot views amounts region ≡ glue (map (settled call.slot) (charged call (actions_of (stored_actions region)))) =
                settles ∙ ap (λ (x : Refusable (List Action)). glue (map (settled call.slot) (charged call (actions_of x)))) (sym stored) in
                (same, wrote ∙ ap₂ (λ (x : Answer) (y : List ℕ). cond (accepts x) y region) same after_all)
