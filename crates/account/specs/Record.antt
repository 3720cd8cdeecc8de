-- A record of an account table.
-- Assumes nothing.
use Rattle.std.specs.Prelude.{ℕ, List}

-- a record: its key, its owning program and its data
pub record Record : Type 0 where
  pub key : List ℕ
  pub owner : List ℕ
  pub payload : List ℕ

-- the bytes of a record before its data: key (32), owning program (32), data length (4)
abbrev pub record_header : ℕ
record_header = 68
