-- Which boundary this is.
-- Assumes nothing.
use Rattle.std.specs.Prelude.{ℕ}

-- one more with each change of a C function's arguments, or of what they or its answer mean
abbrev pub boundary_version : ℕ
boundary_version = 1
