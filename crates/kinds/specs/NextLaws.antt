-- What the kind that was found tells. Assumes nothing.
use Rattle.std.specs.Prelude.{◌≡◌}
use Rattle.std.proofs.Common.{subst}
use Rattle.work.specs.declared.Stand.{Stand}
use Rattle.kinds.specs.declared.Kind.{Kind}
use Rattle.kinds.specs.Next.{Tells}

pub told : (s : Stand) {k k' : Kind} → Tells s k → k ≡ k' → Tells s k'
told s t e = subst (Tells s) e t
