-- A turn of a loop that puts the elements of a list at the places from `at` on: s is the list at entry, l as it is now. Assumes nothing.
use Rattle.std.proofs.Common.{◌≡◌, ap, List, [], ◌∷◌, ◌++◌, ℕ, ◌+◌, ◌<◌, length, get_or, set, add-one, arith}
use Rattle.stretch.specs.Stretch.{part, splice}
use Rattle.stretch.specs.StretchLaws.{part_suc, length_part}
use Rattle.stretch.proofs.LoopLaws.{write_step}

module _ {A : Type 0} where
  pub behind_step : (s l from : List A) (at i : ℕ) (d : A) → i < length from → l ≡ splice s at (part from 0 i) → set l (at + i) (get_or from i d) ≡ splice s at (part from 0 (i + 1))
  behind_step s l from at i d h p =
      let z : 0 + i ≡ i = omega arith in
      let long : length (part from 0 i) ≡ i = length_part from 0 i (omega arith) in
      let next = part_suc from 0 i d (omega arith) in
      rw (add-one, rw z at next) (write_step s l at i (part from 0 i) (get_or from i d) long p)
