-- `binary64::ceil_count` meets its contract: the whole part of a double is a double, so its float is below x exactly where x has a fraction. Assumes nothing.
use Rattle.std.proofs.Common.{◌≡◌, ◌+◌, ◌^◌, ◌<◌, arith}
use Rattle.std.proofs.lemmas.Float.{T_from_true}
use Rattle.binary64.specs.Number.{ceil_count}
use Rattle.binary64.proofs.LawsCeil.{ceil_none, ceil_all, ceil_more, ceil_same, cuttable}
use Rattle.binary64.proofs.ceil_count.Goals as goal
use Rattle.binary64.proofs.ceil_count.Goals.{Then-back-x}

pub truncating_f64_to_u64-whole-requires : goal.truncating_f64_to_u64-whole-requires
truncating_f64_to_u64-whole-requires c =
    let k = cuttable _ c.if-x.true c.if-x-2.true in record { lower_bound = k.0; upper_bound = k.1 }

-- below 2^64, with a fraction
more : (c : Then-back-x) → (c.truncating_f64_to_u64-whole.result < 2 ^ 53) × (c.truncating_f64_to_u64-whole.result + 1 ≡ ceil_count c.args.x)
more c =
    ceil_more _ _ _ (T_from_true _ c.well_formed.0.1) c.if-x.true c.if-x-2.true c.truncating_f64_to_u64-whole.ensures c.nearest_usize_to_f64-back.ensures c.if-back-x.true

pub overflow_add-result : goal.overflow_add-result
overflow_add-result c = let m = more c in record { fits = omega (arith, m.0) }

pub returns-then-back-x : goal.returns-then-back-x
returns-then-back-x c = (more c).1

pub returns-then-x-2 : goal.returns-then-x-2
returns-then-x-2 c =
    ceil_same _ _ _ (T_from_true _ c.well_formed.0.1) c.if-x.true c.if-x-2.true c.truncating_f64_to_u64-whole.ensures c.nearest_usize_to_f64-back.ensures c.if-back-x.false

pub returns-then-x : goal.returns-then-x
returns-then-x c = ceil_all _ c.if-x.true c.if-x-2.false

pub returns : goal.returns
returns c = ceil_none _ c.if-x.false
