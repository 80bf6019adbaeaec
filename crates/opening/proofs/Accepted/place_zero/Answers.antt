-- `Accepted::place_zero` meets its contract: the buffers suffice for each step, and what the steps leave is the image at place 0. Assumes nothing.
use borrow.Author.Rules.{rules}
use native.Mathlib.Omega.{arith}
use Rattle.image.specs.Calls.{buffers}
use Rattle.opening.proofs.LawsPlace.{read_of, suffices_by, fits_read, path_fits, begins_read, stands}
use Rattle.opening.proofs.Accepted.place_zero.Goals as goal

pub lay_out-requires : goal.lay_out-requires
lay_out-requires c = (c.requires.0, fits_read _ _ _ (buffers _ _ _) (suffices_by (read_of c.args.self.now.is c.args.self.now.below) c.requires))

pub begin-rs-requires : goal.begin-rs-requires
begin-rs-requires c = begins_read _ _ _ (buffers _ _ _) (suffices_by (read_of c.args.self.now.is c.args.self.now.below) c.requires) _ _ c.lay_out.ensures (search rules)

pub overflow_mul-plan : goal.overflow_mul-plan
overflow_mul-plan c = omega (arith, (path_fits _ _ _ (buffers _ _ _) (suffices_by (read_of c.args.self.now.is c.args.self.now.below) c.requires)).0)

pub fill-requires : goal.fill-requires
fill-requires c = omega (arith, (path_fits _ _ _ (buffers _ _ _) (suffices_by (read_of c.args.self.now.is c.args.self.now.below) c.requires)).1)

pub returns : goal.returns
returns c =
    stands _ _ _ (buffers _ _ _) (suffices_by (read_of c.args.self.now.is c.args.self.now.below) c.requires) _ _ _ _ _ _ c.lay_out.ensures c.begin-rs.ensures c.fill.ensures c.new.ensures
