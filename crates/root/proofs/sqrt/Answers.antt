-- `root::sqrt` meets its contract: x is what its pattern is read as, and each way out is `root` of the sort that the tests found. A guess that is returned has the root's pattern. Assumes nothing.
use Rattle.std.proofs.Common.{true, ◌≡◌, T, sym, refl, ◌∙◌, arith}
use Rattle.std.proofs.lemmas.Float.{T_from_true}
use mathlib.Core.Bool.{false≢true}
use lib.Ieee.{Float, nan, inf, fin, binary64, fits, is_nan, of_bits}
use lib.Ieee.Bits.{of_bits-to_bits}
use Rattle.binary64.proofs.RootLaws.{of_nan, of_zero, of_fields_lem, of_top, of_minus, root_no_nan, ordinary_is}
use Rattle.root.proofs.sqrt.Goals as goal
use Rattle.root.proofs.sqrt.Goals.{Start}

no_number : (v : Float) → is_nan v ≡ true → v ≡ nan
unfolding is_nan
no_number nan h = refl
no_number (inf s) h = absurd (false≢true h)
no_number (fin s m e) h = absurd (false≢true h)

pub returns-then-is_nan : goal.returns-then-is_nan
returns-then-is_nan c = of_nan c.args.x (no_number c.args.x (sym c.is_nan.ensures.value ∙ c.if-is_nan.true))

pub returns-then-bits-gt-SIGN : goal.returns-then-bits-gt-SIGN
unfolding of_bits
returns-then-bits-gt-SIGN c = sym (of_minus c.args.x (T_from_true _ c.well_formed.0.1) _ refl (omega arith))

pub returns-then-digits-eq0 : goal.returns-then-digits-eq0
returns-then-digits-eq0 c = of_zero c.args.x (T_from_true _ c.well_formed.0.1) _ refl (omega arith) (omega arith)

pub float_from_bits-result : goal.float_from_bits-result
float_from_bits-result c = root_no_nan 0 _ _ (omega arith) c.root_of_subnormal.ensures

pub float_from_bits-result-then-is_nan-2 : goal.float_from_bits-result-then-is_nan-2
float_from_bits-result-then-is_nan-2 c = root_no_nan _ _ _ (omega arith) c.root_of_ordinary.ensures

pub returns-then-is_nan-2 : goal.returns-then-is_nan-2
returns-then-is_nan-2 c = of_fields_lem c.args.x (T_from_true _ c.well_formed.0.1) _ refl _ _ (omega arith) (omega arith) (omega arith) c.root_of_ordinary.ensures

pub returns-then-is_root : goal.returns-then-is_root
returns-then-is_root c =
    let guessed = c.guess-s in
    let kept : T (fits binary64 guessed.result) = T_from_true _ guessed.type_inv in
    sym (of_bits-to_bits binary64 guessed.result kept)
    ∙ of_fields_lem c.args.x (T_from_true _ c.well_formed.0.1) _ refl _ _ (omega arith) (omega arith) (omega arith) (sym (c.is_root.ensures c.if-is_root.true) ∙ ordinary_is _ _ (omega arith))

pub float_from_bits-result-in-1-to-2046 : goal.float_from_bits-result-in-1-to-2046
float_from_bits-result-in-1-to-2046 c = root_no_nan _ _ _ (omega arith) c.root_of_ordinary-in-1-to-2046.ensures

pub returns-else-digits-eq0 : goal.returns-else-digits-eq0
returns-else-digits-eq0 c = of_fields_lem c.args.x (T_from_true _ c.well_formed.0.1) _ refl 0 _ (omega arith) (omega arith) (omega arith) c.root_of_subnormal.ensures

pub returns-else-is_root : goal.returns-else-is_root
returns-else-is_root c = of_fields_lem c.args.x (T_from_true _ c.well_formed.0.1) _ refl _ _ (omega arith) (omega arith) (omega arith) c.root_of_ordinary-in-1-to-2046.ensures

pub returns-in_default : goal.returns-in_default
returns-in_default c = of_top c.args.x (T_from_true _ c.well_formed.0.1) _ refl (omega arith)
