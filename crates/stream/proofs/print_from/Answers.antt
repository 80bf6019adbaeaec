-- `print_from` meets its contract: what was read says what is printed of the whole input. Assumes nothing.
use Rattle.std.proofs.Common.{rules}
use Rattle.stream.proofs.Laws.{read_suffices, writes_printed}
use Rattle.stream.proofs.print_from.Goals as goal

pub returns : goal.returns
returns g c =
    writes_printed _ _ _ _ _ (read_suffices _ _ _ _ (search rules) c.in_ok-got.ensures.bound c.in_ok-got.ensures.bytes c.in_ok-got.ensures.end) c.print_space.ensures
