-- Laws of `placed`: one behind the other, lengths, and the front of a list. Assumes nothing.
use Rattle.std.specs.Prelude.{ℕ, suc, ◌+◌, ◌/◌, ◌%◌, ◌≤◌, ◌<◌, ◌≡◌, List, [], ◌∷◌, ◌++◌, length, set, take, drop}
use Rattle.std.proofs.Math.Path.{refl}
use Rattle.std.proofs.Common.{sym, ap, ap₂, ◌∙◌, append_assoc, add-zero, zero-add, add-one, arith, length-set}
use Rattle.std.proofs.Math.Numerals.{add-two, add-three}
use Rattle.std.proofs.lemmas.List.Edits.{sets, sets-eq, paste_all}
use Rattle.std.proofs.lemmas.Slice.{put_mid-paste}
use borrow.Rule.Slice.PartMut.{put_mid}
use Rattle.format.specs.Place.{placed}
use Rattle.format.specs.Bytes.{bytes}
use Rattle.format.specs.LeLaws.{four}

pub placed_none : (m : List ℕ) (at : ℕ) → placed m at [] ≡ m
unfolding placed
placed_none m at = refl

pub placed_one : (m : List ℕ) (at v : ℕ) → placed m at (v ∷ []) ≡ set m at v
unfolding placed
placed_one m at v = refl

pub placed-next : (m : List ℕ) (at next : ℕ) (xs ys : List ℕ) → next ≡ at + length xs → placed (placed m at xs) next ys ≡ placed m at (xs ++ ys)
unfolding placed
placed-next m at next [] ys e = ap (λ (k : ℕ). placed m k ys) (e ∙ add-zero at)
placed-next m at next (x ∷ xs) ys e = placed-next (set m at x) (suc at) next xs ys (omega arith)

pub length-placed : (m : List ℕ) (at : ℕ) (vs : List ℕ) → length (placed m at vs) ≡ length m
unfolding placed
length-placed m at [] = refl
length-placed m at (v ∷ vs) = length-placed (set m at v) (suc at) vs ∙ length-set m at v

stores : (m : List ℕ) (at : ℕ) (vs : List ℕ) → placed m at vs ≡ sets m at vs
unfolding placed
stores m at [] = refl
stores m at (v ∷ vs) = stores (set m at v) (suc at) vs

pub placed-front : (m vs : List ℕ) → length vs ≤ length m → placed m 0 vs ≡ vs ++ drop (length vs) m
placed-front m vs h =
    let l : 0 + length vs ≤ length m = omega arith in
    stores m 0 vs ∙ sets-eq vs m 0 l ∙ ap (λ (k : ℕ). vs ++ drop k m) (zero-add (length vs))

-- a part that is written over, as the library leaves it
pub placed_part : (m : List ℕ) (at k : ℕ) (ws vs : List ℕ) → ws ≡ vs → length vs ≡ k → at + length vs ≤ length m → put_mid at k m ws ≡ placed m at vs
placed_part m at k ws vs e n h =
    put_mid-paste at k m ws vs (length vs) e n refl
    ∙ paste_all m at vs (length vs) refl
    ∙ sym (stores m at vs ∙ sets-eq vs m at h ∙ append_assoc (take at m) vs (drop (at + length vs) m))

-- ---- numbers of 4 and 8 bytes

-- four stores
pub placed_four : (m : List ℕ) (at x : ℕ) → x < 4294967296
    → set (set (set (set m at (x % 256)) (at + 1) (x / 256 % 256)) (at + 2) (x / 65536 % 256)) (at + 3) (x / 16777216) ≡ placed m at (bytes 4 x)
unfolding placed bytes
placed_four m at x h =
    rw (add-one, add-two, add-three)
    (ap (placed m at) (four (x % 256) (x / 256 % 256) (x / 65536 % 256) (x / 16777216) _ _ _ _ refl refl (omega arith) (omega arith)))

low_four : (x : ℕ) → bytes 4 (x % 4294967296) ≡ bytes 4 x
unfolding bytes
low_four x = four _ _ _ _ _ _ _ _ (omega arith) (omega arith) (omega arith) (omega arith)

high_four : (x : ℕ) → bytes 4 (x / 4294967296) ≡ bytes 4 (x / 256 / 256 / 256 / 256)
high_four x = ap (bytes 4) (omega arith)

pub bytes_eight : (x : ℕ) → bytes 4 (x % 4294967296) ++ bytes 4 (x / 4294967296) ≡ bytes 8 x
bytes_eight x = ap₂ (λ (a b : List ℕ). a ++ b) (low_four x) (high_four x) ∙ joined
  where
    joined : bytes 4 x ++ bytes 4 (x / 256 / 256 / 256 / 256) ≡ bytes 8 x
    joined = unfold bytes in refl
