-- What a kind of pass tells of the stand that it is next from. Definitions only. Assumes nothing.
use Rattle.std.specs.Prelude.{◌≡◌}
use Rattle.work.specs.declared.Stand.{Stand}
use Rattle.work.specs.Ready.{Crosses}
use Rattle.kinds.specs.declared.Kind.{Kind}

abbrev pub Tells : Stand → Kind → Type 0
Tells s Kind.Over = s.walk.end ≡ 0 → ⊥
Tells s Kind.Solve = (s.walk.end ≡ 0) × (s.end ≡ 0)
Tells s Kind.Begin = (s.walk.end ≡ 0) × (s.end ≡ 0 → ⊥) × (s.walk.points ≡ 0)
Tells s Kind.Cross = Crosses s
