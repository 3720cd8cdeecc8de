-- A run over tokens: limits of SOL and of two mints, a recurring limit of one of them, which the vault holds in two accounts. Calls are
-- accepted and refused, a window begins anew and a slot goes back: the sentences speak of something.
-- Assumes nothing.
use Rattle.std.specs.Prelude.{ℕ, ◌≡◌, List, [], ◌∷◌, ◌++◌, replicate}
use Rattle.answer.specs.Numbers.{accepted, action_sol_limit_exceeded, action_token_limit_exceeded, action_token_recurring_limit_exceeded}
use Rattle.number.specs.Number.{bytes_of}
use Rattle.action.specs.Action.{sol_limit, token_limit, token_recurring_limit}
use Rattle.region.specs.Region.{glue}
use Rattle.account.specs.Record.{Record}
use Rattle.table.specs.Table.{glue_table}
use Rattle.token.specs.Tokens.{spl_token}
use Rattle.judge.specs.Judge.{Call}
use Rattle.bursar.specs.Run.{ours, after_run, numbers_of, sol, tokens}
use Rattle.bursar.specs.Limits.{limit_of, recurring_of, taken_at}
use Rattle.bursar.specs.Judges.{left_in, sums, limit_in}

-- two mints, and the vault
abbrev pub paper : List ℕ
paper = replicate 32 1

abbrev pub pencils : List ℕ
pencils = replicate 32 2

abbrev pub vault_key : List ℕ
vault_key = replicate 32 9

-- so much left of SOL, of paper and of pencils; of paper also 30 in 10 slots, of which so much is spent since the last reset
unfoldable pub desk : ℕ → ℕ → ℕ → ℕ → ℕ → List ℕ
desk lamports sheets pieces spent reset =
    glue
    (record { kind = sol_limit; expires = 0; payload = bytes_of 8 lamports }
    ∷ record { kind = token_limit; expires = 0; payload = paper ++ bytes_of 8 sheets }
    ∷ record { kind = token_limit; expires = 0; payload = pencils ++ bytes_of 8 pieces }
    ∷ record { kind = token_recurring_limit; expires = 0; payload = paper ++ bytes_of 8 30 ++ bytes_of 8 spent ++ bytes_of 8 10 ++ bytes_of 8 reset }
    ∷ [])

-- a token account of the vault: its key's byte, its mint, its amount
unfoldable pub account : ℕ → List ℕ → ℕ → Record
account key mint amount = record { key = replicate 32 key; owner = spl_token; payload = mint ++ vault_key ++ bytes_of 8 amount ++ replicate 93 0 }

-- the table of two accounts of paper and one of pencils
unfoldable pub stock : ℕ → ℕ → ℕ → List ℕ
unfolding account
stock first second pieces = glue_table (account 3 paper first ∷ account 4 paper second ∷ account 5 pencils pieces ∷ [])

-- a call at a slot that takes so many lamports, from one stock to another
unfoldable pub order : ℕ → ℕ → List ℕ → List ℕ → Call
order slot lamports before after =
    record {
      before = before;
      after = after;
      instructions = 0 ∷ [];
      vault = vault_key;
      slot = slot;
      lamports_before = lamports;
      lamports_after = 0;
      gross = lamports;
    }

-- 15 of paper and 10 lamports; 20 of paper, more than the window has; 25 of pencils, more than are left; 8 of pencils while paper moves
-- between its accounts; 20 of paper when the window is over; back in slot 3, 5 of paper; 91 lamports, more than are left
unfoldable pub term : List Call
unfolding stock order
term =
    order 5 10 (stock 40 60 30) (stock 30 55 30)
    ∷ order 6 0 (stock 30 55 30) (stock 10 55 30)
    ∷ order 7 0 (stock 30 55 30) (stock 30 55 5)
    ∷ order 8 0 (stock 30 55 30) (stock 40 45 22)
    ∷ order 16 0 (stock 40 45 22) (stock 30 35 22)
    ∷ order 3 0 (stock 30 35 22) (stock 30 30 22)
    ∷ order 17 91 (stock 30 30 22) (stock 30 30 22)
    ∷ []

-- what is computed of the run: the opening is `desk 100 50 20 0 0`
pub record WitnessComputed : Type 0 where
  pub each_mint_has_its_own : left_in (limit_of (tokens paper) (desk 100 50 20 0 0)) ++ left_in (limit_of (tokens pencils) (desk 100 50 20 0 0)) ≡ 50 ∷ 20 ∷ []
  pub numbers
      : numbers_of ours (desk 100 50 20 0 0) term
      ≡ accepted ∷ action_token_recurring_limit_exceeded ∷ action_token_limit_exceeded ∷ accepted ∷ accepted ∷ accepted ∷ action_sol_limit_exceeded ∷ []
  pub after : after_run ours (desk 100 50 20 0 0) term ≡ desk 90 10 12 25 10
  -- of each limit: the opening amount, what is left, what was taken
  pub of_sol : sums sol ours (desk 100 50 20 0 0) term ≡ 100 ∷ 90 ∷ 10 ∷ []
  pub of_paper : sums (tokens paper) ours (desk 100 50 20 0 0) term ≡ 50 ∷ 10 ∷ 40 ∷ []
  pub of_pencils : sums (tokens pencils) ours (desk 100 50 20 0 0) term ≡ 20 ∷ 12 ∷ 8 ∷ []
  -- of paper's window: its limit, what was taken with the last reset at 0 and at 10
  pub window : limit_in (recurring_of (tokens paper) (desk 100 50 20 0 0)) ≡ 30 ∷ []
  pub taken-first : taken_at 0 (tokens paper) ours (desk 100 50 20 0 0) term ≡ 15
  pub taken_then : taken_at 10 (tokens paper) ours (desk 100 50 20 0 0) term ≡ 25
