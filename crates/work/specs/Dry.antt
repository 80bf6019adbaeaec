-- Passes on a front alone, and what a count of them asks. Definitions only. Assumes nothing.
use Rattle.std.specs.Prelude.{List, ℕ, ◌+◌, ◌-◌, ◌≤◌, ◌<◌, length, Float}
use Rattle.model.specs.Space.{float_space}
use Rattle.work.specs.declared.Plan.{Plan}
use Rattle.work.specs.declared.Stand.{Stand}
use Rattle.work.specs.Memory.{front_of, Dry, dry}
use Rattle.work.specs.Ready.{Ready, Standing}

-- a front and a stand, and those of the whole floats
abbrev pub dry_of : List Float → Stand → Dry
dry_of f s = record { front = f; stand = s }

abbrev pub dry_at : Plan → List Float → Stand → Dry
dry_at plan m s = dry_of (front_of plan m) s

-- how many places k passes gain
abbrev pub gain : Plan → List ℕ → ℕ → List Float → Stand → ℕ
gain plan words k m s = (dry plan words k (dry_at plan m s)).stand.place - s.place

-- what a dry count of k passes asks
pub record Counts (plan : Plan) (words : List ℕ) (s : Stand) (k : ℕ) (m : List Float) : Type 0 where
  pub ready : Ready plan words
  pub standing : Standing plan s
  pub near : s.place + k < 1000000
  pub floats_fit : float_space plan.n plan.t plan.limit ≤ length m
