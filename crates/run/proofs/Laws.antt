-- A turn of the loop over the calls. Assumes nothing.
use Prim.Native.Nat.{ℕ, zero, suc, ◌+◌, ◌*◌, ◌<◌}
use mathlib.Core.Path.{◌≡◌, sym, ap, ◌∙◌}
use mathlib.Core.List.{List, [], ◌++◌}
use native.Mathlib.Omega.{arith}
use lib.ListN.{length, take, drop, set, get_or}
use Rattle.std.specs.Simd.{first_chunks}
use Rattle.std.proofs.lemmas.List.{get_or-take, get_or-drop}
use Rattle.work.specs.declared.Run.{Run}
use Rattle.image.specs.Answer.{Answer}
use Rattle.image.specs.Calls.{Buffers}
use Rattle.image.specs.Lists.{Held}
use Rattle.image.specs.Replay.{lent_at, Turned, replayed}
use Rattle.image.proofs.ReplayLaws.{replayed-more, length-said, turn, said_more}

-- record, buffers and refusals after one call more
pub made_more : (l : List ℕ) (i : ℕ) (r : Run) (b₀ : Buffers) (said₀ : List ℕ) (held : Run) (b : Buffers) (said : List ℕ) (a : Answer) (b' : Buffers) → i < length said₀
    → held ≡ (replayed l i r b₀).run → b ≡ (replayed l i r b₀).all → said ≡ (replayed l i r b₀).said ++ drop i said₀ → Turned (lent_at l i) held b a b'
    → (a.run ≡ (replayed l (i + 1) r b₀).run) × (b' ≡ (replayed l (i + 1) r b₀).all) × (set said i a.refused ≡ (replayed l (i + 1) r b₀).said ++ drop (i + 1) said₀)
made_more l i r b₀ said₀ held b said a b' k eh eb es t =
    let h = replayed l i r b₀ in
    let e = replayed-more l i r b₀ ∙ turn h (lent_at l i) held b a b' eh eb t in (
      sym (ap (λ (x : Held). x.run) e),
      sym (ap (λ (x : Held). x.all) e),
      ap (λ (x : List ℕ). set x i a.refused) es
          ∙ said_more h.said said₀ i a.refused (length-said l i r b₀) k
          ∙ sym (ap (λ (x : Held). x.said ++ drop (i + 1) said₀) e),
    )

-- the numbers of a call in a row of their own
pub row_call : (l : List ℕ) (m i : ℕ) → i < m → lent_at (get_or (first_chunks 6 m l) i []) 0 ≡ lent_at l i
row_call l zero i h = absurd (omega (arith, h))
row_call l (suc m) zero h = rw (get_or-take 6 l 0 0 (omega arith), get_or-take 6 l 1 0 (omega arith), get_or-take 6 l 3 0 (omega arith), get_or-take 6 l 4 0 (omega arith), get_or-take 6 l 5 0 (omega arith))
row_call l (suc m) (suc i) h =
    row_call (drop 6 l) m i (omega (arith, h)) ∙ rw (← read (6 * i) (6 * suc i) (omega arith), ← read (6 * i + 1) (6 * suc i + 1) (omega arith), ← read (6 * i + 3) (6 * suc i + 3) (omega arith), ← read (6 * i + 4) (6 * suc i + 4) (omega arith), ← read (6 * i + 5) (6 * suc i + 5) (omega arith))
  where
    read : (j k : ℕ) → k ≡ 6 + j → get_or l k 0 ≡ get_or (drop 6 l) j 0
    read j k e = ap (λ (n : ℕ). get_or l n 0) e ∙ sym (get_or-drop 6 l j 0)

-- the same among the first rows
pub row_taken : (l : List ℕ) (rows : List (List ℕ)) (m count i : ℕ) → rows ≡ first_chunks 6 m l → i < count → i < m → lent_at (get_or (take count rows) i []) 0 ≡ lent_at l i
row_taken l rows m count i e h k = ap (λ (r : List ℕ). lent_at r 0) (get_or-take count rows i [] h ∙ ap (λ (x : List (List ℕ)). get_or x i []) e) ∙ row_call l m i k
