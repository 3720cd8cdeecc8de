-- Laws of the program lists, action by action and instruction by instruction.
-- Assumes nothing.
use mathlib.Core.Path.{◌≡◌, refl, ap, ◌∙◌}
use mathlib.Core.Bool.{Bool, true, false, not, ◌&&◌}
use mathlib.Core.List.{List}
use Prim.Native.Nat.{ℕ, suc, ◌<◌, ◌≤◌}
use borrow.Author.Tests.{lt-ltb, le-ltb}
use lib.Dec.{ltb}
use lib.ListN.{length, get_or, drop, drop_of_length-le}
use lib.Seq.{drop-cons}
use Rattle.answer.specs.declared.Refusal.{Refusal}
use Rattle.answer.specs.declared.Refusal.TheVariants.{InvalidInstructionData, ActionProgramNotWhitelisted, ActionProgramBlacklisted}
use Rattle.answer.specs.Numbers.{Answer}
use Rattle.answer.specs.Refusable.{Ok, Err}
use Rattle.answer.proofs.Laws.{first_passes, first_refuses, rule_holds, rule_broken, no_rule, only}
use Rattle.action.specs.declared.ActionView.{ActionView}
use Rattle.action.specs.Action.{Action}
use Rattle.row.specs.Views.{actions_in, kinds_in}
use Rattle.creation.specs.Creation.{how_often, kinds_of}
use Rattle.creation.proofs.Scanning.{kinds_of_actions}
use Rattle.account.specs.Record.{Record}
use Rattle.lookup.specs.Indexes.{key_among}
use Rattle.programs.specs.Programs.{in_live_list, lists_answer, program_answer, programs_answer}

-- ---- both lists

module _ (slot : ℕ) (s : List ℕ) (views : List ActionView) (key : List ℕ) where
  -- whether a whitelist is there and no live one has the key
  abbrev not_whitelisted : Bool
  not_whitelisted = ltb 0 (how_often 10 (kinds_in views)) && not (in_live_list 10 slot key (actions_in s views))

  same_test : (ltb 0 (how_often 10 (kinds_of (actions_in s views))) && not (in_live_list 10 slot key (actions_in s views))) ≡ not_whitelisted
  same_test = ap (λ (ks : List ℕ). ltb 0 (how_often 10 ks) && not (in_live_list 10 slot key (actions_in s views))) (kinds_of_actions s views)

  pub lists_not_whitelisted : not_whitelisted ≡ true → lists_answer slot (actions_in s views) key ≡ Err ActionProgramNotWhitelisted
  unfolding lists_answer
  lists_not_whitelisted e = rule_broken _ _ _ (same_test ∙ e)

  module _ (w : not_whitelisted ≡ false) where
    pub lists_blacklisted : in_live_list 11 slot key (actions_in s views) ≡ true → lists_answer slot (actions_in s views) key ≡ Err ActionProgramBlacklisted
    unfolding lists_answer
    lists_blacklisted e = rule_holds _ _ _ (same_test ∙ w) ∙ rule_broken _ _ _ e

    pub lists_allow : in_live_list 11 slot key (actions_in s views) ≡ false → lists_answer slot (actions_in s views) key ≡ Ok tt
    unfolding lists_answer
    lists_allow e = rule_holds _ _ _ (same_test ∙ w) ∙ rule_holds _ _ _ e ∙ no_rule

-- ---- one instruction

module _ (slot : ℕ) (l : List Action) (records : List Record) (program : ℕ) where
  pub program_out_of_range : length records ≤ program → program_answer slot l records program ≡ Err InvalidInstructionData
  unfolding program_answer
  program_out_of_range h = rule_broken _ _ _ (ap not (le-ltb _ _ h))

  pub program_in_range : program < length records → program_answer slot l records program ≡ lists_answer slot l (key_among records program)
  unfolding program_answer
  program_in_range h = rule_holds _ _ _ (ap not (lt-ltb _ _ h)) ∙ only _

-- ---- all instructions

module _ (slot : ℕ) (l : List Action) (records : List Record) (programs : List ℕ) (i : ℕ) where
  module _ (h : i < length programs) (a : Answer) (q : a ≡ program_answer slot l records (get_or programs i 0)) where
    pub programs_refused : (r : Refusal) → a ≡ Err r → programs_answer slot l records (drop i programs) ≡ Err r
    unfolding programs_answer
    programs_refused r e = rw (drop-cons programs i 0, ← q, e) (first_refuses (Err r) _ refl)

    pub programs_passed : (u : Unit {0}) → a ≡ Ok u → programs_answer slot l records (drop i programs) ≡ programs_answer slot l records (drop (suc i) programs)
    unfolding programs_answer
    programs_passed u e = rw (drop-cons programs i 0, ← q, e) (first_passes (Ok tt) _ refl)

  pub programs_end : length programs ≤ i → programs_answer slot l records (drop i programs) ≡ Ok tt
  unfolding programs_answer
  programs_end past = rw (drop_of_length-le programs past) no_rule

-- ---- whether there is a whitelist

module _ (slot : ℕ) (s : List ℕ) (views : List ActionView) (key : List ℕ) where
  pub no_whitelist_there : how_often 10 (kinds_in views) ≤ 0 → (ltb 0 (how_often 10 (kinds_in views)) && not (in_live_list 10 slot key (actions_in s views))) ≡ false
  no_whitelist_there h = rw (le-ltb _ _ h)

  pub whitelist_there : 0 < how_often 10 (kinds_in views) → (ltb 0 (how_often 10 (kinds_in views)) && not (in_live_list 10 slot key (actions_in s views))) ≡ not (in_live_list 10 slot key (actions_in s views))
  whitelist_there h = rw (lt-ltb _ _ h)
