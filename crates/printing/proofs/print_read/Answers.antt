-- `print_read` meets its contract: the space has one byte more than a sheet may have, and the part that is printed is what `take` gives. Assumes nothing.
use Rattle.std.proofs.Common.{◌≡◌, ℕ, List, length, take, rules}
use Prim.Native.Nat.{min}
use Rattle.std.proofs.lemmas.List.{take_min}
use Rattle.printing.proofs.print_read.Goals as goal

least : (got n k : ℕ) (space : List ℕ) → length space ≡ n → k ≡ min got n → take k space ≡ take got space
least got n k space e m = rw (m, ← e) (take_min got space)

pub returns : goal.returns
returns c = record { one_more = search rules; prints = rw (least c.args.got 65537 c.min.result c.args.space.now (search rules) (search rules)) at c.print_sheet.ensures }
