-- `number::read_u64` meets its contract: where the bytes are all there it is their number, and else 0.
-- Assumes nothing.
use mathlib.Core.Path.{◌≡◌}
use Rattle.std.specs.Int.{from_le_bytes, w64}
use Rattle.std.specs.Option.{MatchOption}
use Rattle.std.proofs.Common.{rules}
use Rattle.number.proofs.Laws.{read}
use Rattle.number.proofs.read_u64.Goals as goal

pub returns : goal.returns
returns c =
    let is : MatchOption c.bytes_at.result (c.map_or.result ≡ 0) (λ it. c.map_or.result ≡ from_le_bytes w64 it.now) = search rules in
    read 7 _ c.args.bytes.now c.args.at c.bytes_at.result c.bytes_at.ensures is
