-- What is promised of the freeze, as one sentence.
-- Assumes nothing.
use mathlib.Core.Path.{◌≡◌, ap, ◌∙◌}
use mathlib.Core.Bool.{Bool, true, false}
use mathlib.Core.List.{List}
use mathlib.Core.Option.{some}
use Prim.Native.Nat.{ℕ}
use Rattle.account.specs.Record.{Record}
use Rattle.token.specs.Tokens.{is_token_account, is_counted, mint_of}
use Rattle.freeze.specs.Freeze.{first_with_key, is_found_still, keeps_freeze}
use Rattle.freeze.proofs.Freezing.{no_account_still, listed_frozen}

-- a counted account of a listed mint that is no token account afterwards breaks it
pub what_stops_being_an_account_breaks_the_freeze : (vault : List ℕ) (listed : List ℕ → Bool) (after : List Record) (r q : Record)
    → is_counted vault r ≡ true → listed (mint_of r) ≡ true → first_with_key r.key after ≡ some q → is_token_account q ≡ false
    → keeps_freeze vault listed after r ≡ false
what_stops_being_an_account_breaks_the_freeze vault listed after r q counted of-listed found none =
    listed_frozen vault listed after r counted of-listed ∙ ap (is_found_still r.payload) found ∙ no_account_still r.payload q none
