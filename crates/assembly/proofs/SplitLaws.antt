-- The two buffers as their parts: what is put in the parts is what stands in the buffers. Assumes nothing.
use Prim.Native.Nat.{ℕ, ◌+◌, ◌-◌, ◌*◌, ◌≤◌}
use native.Mathlib.Nat.{add-zero}
use native.Mathlib.Omega.{arith}
use mathlib.Core.Path.{◌≡◌, sym, ap, ◌∙◌}
use mathlib.Core.List.{List, ◌++◌, append_assoc}
use lib.Ieee.{Float}
use lib.ListN.{length, take, drop, replicate, length-append, length-replicate}
use lib.Seq.{length-take-le}
use Rattle.binary64.specs.Constants.{plus_zero}
use Rattle.stretch.specs.Stretch.{part, splice}
use Rattle.stretch.specs.StretchLaws.{length_part, part_of_take, splice_rest, splice_front, splice_all, length-splice}
use Rattle.rows.proofs.PutLaws.{front_is}
use Rattle.laplace.specs.declared.Places.{Places}
use Rattle.laplace.specs.declared.element.Elements.{Elements}
use Rattle.laplace.specs.Mesh.{held_value}
use Rattle.laplace.specs.Assembly.{right_side}
use Rattle.laplace.specs.Matrix.{count, few_entries}
use Rattle.laplace.specs.Laid.{LaidFloats, LaidWords}
use Rattle.laplace.specs.Placed.{values_of, columns_of, starts_of, padded}
use Rattle.laplace.specs.Row.{vertices_in, corners_in, tags_in}
use Rattle.laplace.specs.Whole.{pushes_in, rows_for, most, Assembled}
use Rattle.laplace.proofs.LawsPlaced.{length-values_of, length-columns_of, length_starts, length-rows, length-padded}
use Rattle.assembly.specs.Fields.{Lengths, Filled}

module _ {A : Type 0} where
  -- a stretch of a front
  pub part_is : (l front : List A) (size at k : ℕ) → front ≡ take size l → at + k ≤ size → take (at + k - at) (drop at front) ≡ part l at k
  unfolding part
  part_is l front size at k e h =
      let m : at + k - at ≡ k = omega arith in
      rw (m, e) (part_of_take l size at k h)

  -- a write to the next part
  next : (p l t new : List A) (at : ℕ) → at ≡ length p → length new ≤ length l → splice (p ++ (l ++ t)) at new ≡ (p ++ splice l 0 new) ++ t
  next p l t new at e h =
      ap (λ (x : ℕ). splice (p ++ (l ++ t)) x new) (e ∙ sym (add-zero (length p))) ∙ splice_rest p (l ++ t) 0 new
      ∙ ap (λ (x : List A). p ++ x) (splice_front l t 0 new (omega arith)) ∙ sym (append_assoc p (splice l 0 new) t)

  last : (p t new : List A) (at : ℕ) → at ≡ length p → splice (p ++ t) at new ≡ p ++ splice t 0 new
  last p t new at e = ap (λ (x : ℕ). splice (p ++ t) x new) (e ∙ sym (add-zero (length p))) ∙ splice_rest p t 0 new

  longer : (p l new : List A) → length (p ++ splice l 0 new) ≡ length p + length l
  longer p l new = length-append p (splice l 0 new) ∙ ap (λ (x : ℕ). length p + x) (length-splice l 0 new)

  -- four parts, of which the last three are written
  pub four : (f f₀ f₁ f₂ f₃ x₁ x₂ x₃ : List A) (a b c : ℕ) → f ≡ f₀ ++ (f₁ ++ (f₂ ++ f₃)) → length f₀ ≡ a → length f₁ ≡ b - a → length f₂ ≡ c - b → a ≤ b → b ≤ c
      → length x₁ ≤ length f₁ → length x₂ ≤ length f₂
      → f₀ ++ (splice f₁ 0 x₁ ++ (splice f₂ 0 x₂ ++ splice f₃ 0 x₃)) ≡ splice (splice (splice f a x₁) b x₂) c x₃
  four f f₀ f₁ f₂ f₃ x₁ x₂ x₃ a b c e l₀ l₁ l₂ ab bc h₁ h₂ =
      let p₁ = f₀ ++ splice f₁ 0 x₁ in
      let p₂ = p₁ ++ splice f₂ 0 x₂ in
      let m₁ : b ≡ length p₁ = omega (arith, longer f₀ f₁ x₁) in
      let m₂ : c ≡ length p₂ = omega (arith, longer p₁ f₂ x₂) in
      sym (ap (λ (x : List A). splice (splice (splice x a x₁) b x₂) c x₃) e
      ∙ ap (λ (x : List A). splice (splice x b x₂) c x₃) (next f₀ f₁ (f₂ ++ f₃) x₁ a (sym l₀) h₁)
      ∙ ap (λ (x : List A). splice x c x₃) (next p₁ f₂ f₃ x₂ b m₁ h₂)
      ∙ last p₂ f₃ x₃ c m₂
      ∙ append_assoc p₁ (splice f₂ 0 x₂) (splice f₃ 0 x₃) ∙ append_assoc f₀ (splice f₁ 0 x₁) (splice f₂ 0 x₂ ++ splice f₃ 0 x₃))

  -- and six
  pub six : (f f₀ f₁ f₂ f₃ f₄ f₅ x₁ x₂ x₃ x₄ x₅ : List A) (a b c d e : ℕ) → f ≡ f₀ ++ (f₁ ++ (f₂ ++ (f₃ ++ (f₄ ++ f₅)))) → length f₀ ≡ a → length f₁ ≡ b - a → length f₂ ≡ c - b → length f₃ ≡ d - c → length f₄ ≡ e - d
      → a ≤ b → b ≤ c → c ≤ d → d ≤ e → length x₁ ≤ length f₁ → length x₂ ≤ length f₂ → length x₃ ≤ length f₃ → length x₄ ≤ length f₄
      → f₀ ++ (splice f₁ 0 x₁ ++ (splice f₂ 0 x₂ ++ (splice f₃ 0 x₃ ++ (splice f₄ 0 x₄ ++ splice f₅ 0 x₅)))) ≡ splice (splice (splice (splice (splice f a x₁) b x₂) c x₃) d x₄) e x₅
  six f f₀ f₁ f₂ f₃ f₄ f₅ x₁ x₂ x₃ x₄ x₅ a b c d e h l₀ l₁ l₂ l₃ l₄ ab bc cd de h₁ h₂ h₃ h₄ =
      let p₁ = f₀ ++ splice f₁ 0 x₁ in
      let p₂ = p₁ ++ splice f₂ 0 x₂ in
      let p₃ = p₂ ++ splice f₃ 0 x₃ in
      let p₄ = p₃ ++ splice f₄ 0 x₄ in
      let m₁ : b ≡ length p₁ = omega (arith, longer f₀ f₁ x₁) in
      let m₂ : c ≡ length p₂ = omega (arith, longer p₁ f₂ x₂) in
      let m₃ : d ≡ length p₃ = omega (arith, longer p₂ f₃ x₃) in
      let m₄ : e ≡ length p₄ = omega (arith, longer p₃ f₄ x₄) in
      let y₄ = splice f₄ 0 x₄ ++ splice f₅ 0 x₅ in
      let y₃ = splice f₃ 0 x₃ ++ y₄ in
      sym (ap (λ (x : List A). splice (splice (splice (splice (splice x a x₁) b x₂) c x₃) d x₄) e x₅) h
      ∙ ap (λ (x : List A). splice (splice (splice (splice x b x₂) c x₃) d x₄) e x₅) (next f₀ f₁ (f₂ ++ (f₃ ++ (f₄ ++ f₅))) x₁ a (sym l₀) h₁)
      ∙ ap (λ (x : List A). splice (splice (splice x c x₃) d x₄) e x₅) (next p₁ f₂ (f₃ ++ (f₄ ++ f₅)) x₂ b m₁ h₂)
      ∙ ap (λ (x : List A). splice (splice x d x₄) e x₅) (next p₂ f₃ (f₄ ++ f₅) x₃ c m₂ h₃)
      ∙ ap (λ (x : List A). splice x e x₅) (next p₃ f₄ f₅ x₄ d m₃ h₄)
      ∙ last p₄ f₅ x₅ e m₄
      ∙ append_assoc p₃ (splice f₄ 0 x₄) (splice f₅ 0 x₅)
      ∙ append_assoc p₂ (splice f₃ 0 x₃) y₄
      ∙ append_assoc p₁ (splice f₂ 0 x₂) y₃
      ∙ append_assoc f₀ (splice f₁ 0 x₁) (splice f₂ 0 x₂ ++ y₃))

-- ---- the two buffers

pub record FloatParts (f : List Float) (at : Places) (f₀ f₁ f₂ f₃ : List Float) : Type 0 where
  pub whole : f ≡ f₀ ++ (f₁ ++ (f₂ ++ f₃))
  pub long₀ : length f₀ ≡ at.right
  pub long₁ : length f₁ ≡ at.row - at.right
  pub long₂ : length f₂ ≡ at.values - at.row
  pub long₃ : length f₃ ≡ length f - at.values

pub record WordParts (w : List ℕ) (at : Places) (w₀ w₁ w₂ w₃ w₄ w₅ : List ℕ) : Type 0 where
  pub whole : w ≡ w₀ ++ (w₁ ++ (w₂ ++ (w₃ ++ (w₄ ++ w₅))))
  pub long₀ : length w₀ ≡ at.starts
  pub long₁ : length w₁ ≡ at.cols - at.starts
  pub long₂ : length w₂ ≡ at.heads - at.cols
  pub long₃ : length w₃ ≡ at.links - at.heads
  pub long₄ : length w₄ ≡ at.rowcols - at.links
  pub long₅ : length w₅ ≡ length w - at.rowcols

-- what three splits of the floats and five of the words give, by the front of each
pub float_parts : (f f₀ r₀ f₁ r₁ f₂ f₃ : List Float) (n t : ℕ) (at : Places) → LaidFloats f n t at → f ≡ f₀ ++ r₀ → length f₀ ≡ at.right → r₀ ≡ f₁ ++ r₁ → length f₁ ≡ at.row - at.right
    → r₁ ≡ f₂ ++ f₃ → length f₂ ≡ at.values - at.row → FloatParts f at f₀ f₁ f₂ f₃
float_parts f f₀ r₀ f₁ r₁ f₂ f₃ n t at laid e₀ l₀ e₁ l₁ e₂ l₂ =
    record {
      whole = e₀ ∙ ap (λ (x : List Float). f₀ ++ x) (e₁ ∙ ap (λ (x : List Float). f₁ ++ x) e₂);
      long₀ = l₀;
      long₁ = l₁;
      long₂ = l₂;
      long₃ = omega (arith, laid, ap length e₀, length-append f₀ r₀, ap length e₁, length-append f₁ r₁, ap length e₂, length-append f₂ f₃);
    }

pub word_parts : (w w₀ r₀ w₁ r₁ w₂ r₂ w₃ r₃ w₄ w₅ : List ℕ) (n t : ℕ) (at : Places) → LaidWords w n t at → w ≡ w₀ ++ r₀ → length w₀ ≡ at.starts → r₀ ≡ w₁ ++ r₁ → length w₁ ≡ at.cols - at.starts
    → r₁ ≡ w₂ ++ r₂ → length w₂ ≡ at.heads - at.cols → r₂ ≡ w₃ ++ r₃ → length w₃ ≡ at.links - at.heads → r₃ ≡ w₄ ++ w₅ → length w₄ ≡ at.rowcols - at.links → WordParts w at w₀ w₁ w₂ w₃ w₄ w₅
word_parts w w₀ r₀ w₁ r₁ w₂ r₂ w₃ r₃ w₄ w₅ n t at laid e₀ l₀ e₁ l₁ e₂ l₂ e₃ l₃ e₄ l₄ =
    record {
      whole = e₀ ∙ ap (λ (x : List ℕ). w₀ ++ x) (e₁ ∙ ap (λ (x : List ℕ). w₁ ++ x) (e₂ ∙ ap (λ (x : List ℕ). w₂ ++ x) (e₃ ∙ ap (λ (x : List ℕ). w₃ ++ x) e₄)));
      long₀ = l₀;
      long₁ = l₁;
      long₂ = l₂;
      long₃ = l₃;
      long₄ = l₄;
      long₅ = omega (arith, laid, ap length e₀, length-append w₀ r₀, ap length e₁, length-append w₁ r₁, ap length e₂, length-append w₂ r₂, ap length e₃, length-append w₃ r₃, ap length e₄, length-append w₄ w₅);
    }

module _ (f : List Float) (w : List ℕ) (n t : ℕ) (at : Places) (lf : LaidFloats f n t at) (lw : LaidWords w n t at)
    (f₀ f₁ f₂ f₃ : List Float) (w₀ w₁ w₂ w₃ w₄ w₅ : List ℕ) (pf : FloatParts f at f₀ f₁ f₂ f₃) (pw : WordParts w at w₀ w₁ w₂ w₃ w₄ w₅) where
  vertices_long : length (vertices_in f n at) ≡ 2 * n
  vertices_long = length_part f at.vertices (2 * n) (omega (arith, lf))

  corners_long : length (corners_in w t at) ≡ 3 * t
  corners_long = length_part w at.triangles (3 * t) (omega (arith, lw))

  tags_long : length (tags_in w n at) ≡ n
  tags_long = length_part w at.tags n (omega (arith, lw))

  pub lengths_are : (e : Elements) → e.vertices.now ≡ vertices_in f n at → e.triangles.now ≡ corners_in w t at → e.tags.now ≡ tags_in w n at
      → Lengths e (length (take n f₁)) (length (take n f₂)) (length (take (9 * t + n) f₃))
      (length (take (n + 1) w₁)) (length (take (9 * t + n) w₂)) (length (take n w₃)) (length (take (3 * t) w₄)) (length (take n w₅))
  lengths_are e ev et eg =
      let v : length e.vertices.now ≡ 2 * n = ap length ev ∙ vertices_long in
      let c : length e.triangles.now ≡ 3 * t = ap length et ∙ corners_long in
      let g : length e.tags.now ≡ n = ap length eg ∙ tags_long in
      record {
        mesh = record {
          few_vertices = omega (arith, lw.few);
          few_corners = omega (arith, lw.few);
          vertices = omega arith;
          whole = omega arith;
          corners = rw (g, et) lw.corners;
        };
        right_long = length-take-le n f₁ (omega (arith, pf, lf)) ∙ sym g;
        row_long = length-take-le n f₂ (omega (arith, pf, lf)) ∙ sym g;
        values_long = length-take-le (9 * t + n) f₃ (omega (arith, pf, lf)) ∙ omega arith;
        starts_long = length-take-le (n + 1) w₁ (omega (arith, pw, lw)) ∙ omega arith;
        cols_long = length-take-le (9 * t + n) w₂ (omega (arith, pw, lw)) ∙ omega arith;
        heads_long = length-take-le n w₃ (omega (arith, pw, lw)) ∙ sym g;
        links_long = length-take-le (3 * t) w₄ (omega (arith, pw, lw)) ∙ sym c;
        rowcols_long = length-take-le n w₅ (omega (arith, pw, lw)) ∙ sym g;
      }

  module _ (flat : Float) where
    few : count (rows_for flat f w n t at n) ≤ most n t
    few = omega (arith, few_entries (tags_in w n at) flat (vertices_in f n at) (corners_in w t at) n, corners_long)

    pub assembled : (vs : List Float) (ts gs : List ℕ) → vs ≡ vertices_in f n at → ts ≡ corners_in w t at → gs ≡ tags_in w n at
        → (right row values : List Float) (starts cols heads links rowcols : List ℕ) (k : ℕ) → length right ≡ n
        → Filled flat vs ts gs (take (n + 1) w₁) right row values starts cols heads links rowcols k
        → Assembled f w
        (f₀ ++ ((right ++ drop n f₁) ++ ((row ++ drop n f₂) ++ (values ++ drop (9 * t + n) f₃))))
        (w₀ ++ ((starts ++ drop (n + 1) w₁) ++ ((cols ++ drop (9 * t + n) w₂) ++ ((heads ++ drop n w₃) ++ ((links ++ drop (3 * t) w₄) ++ (rowcols ++ drop n w₅))))))
        n t at k (rows_for flat f w n t at n) (right_side held_value (tags_in w n at) (pushes_in flat f w n t at) n)
    assembled vs ts gs ev et eg right row values starts cols heads links rowcols k lr h =
        let q : Filled flat (vertices_in f n at) (corners_in w t at) (tags_in w n at) (take (n + 1) w₁) right row values starts cols heads links rowcols k = rw (ev, et, eg) at h in
        let m : 3 * length (corners_in w t at) + length (tags_in w n at) ≡ most n t = omega (arith, corners_long, tags_long) in
        let all = rows_for flat f w n t at n in
        let side : right ≡ right_side held_value (tags_in w n at) (pushes_in flat f w n t at) n = rw tags_long at q.side in
        let er : row ≡ replicate n plus_zero = rw tags_long at q.row_clear in
        let ew : values ≡ padded (most n t) plus_zero (values_of all) = rw (m, tags_long) at q.entries in
        let es₀ : starts ≡ splice (take (n + 1) w₁) 0 (starts_of all) = rw tags_long at q.first in
        let ls : length (starts_of all) ≡ n + 1 = omega (arith, length_starts 0 all, length-rows (tags_in w n at) (pushes_in flat f w n t at) n) in
        let es : starts ≡ starts_of all = es₀ ∙ splice_all (take (n + 1) w₁) (starts_of all) (ls ∙ sym (length-take-le (n + 1) w₁ (omega (arith, pw, lw)))) in
        let ec : cols ≡ padded (most n t) 0 (columns_of all) = rw (m, tags_long) at q.columns in
        let eh : heads ≡ replicate n 0 = rw tags_long at q.heads_clear in
        let el : links ≡ replicate (3 * t) 0 = rw corners_long at q.links_clear in
        let eq : rowcols ≡ replicate n 0 = rw tags_long at q.rowcols_clear in
        let l₂ : length row ≡ n = ap length er ∙ length-replicate n plus_zero in
        let l₃ : length values ≡ 9 * t + n = ap length ew ∙ length-padded (most n t) plus_zero (values_of all) (omega (arith, few, length-values_of all)) in
        let k₁ : length starts ≡ n + 1 = ap length es ∙ ls in
        let k₂ : length cols ≡ 9 * t + n = ap length ec ∙ length-padded (most n t) 0 (columns_of all) (omega (arith, few, length-columns_of all)) in
        let k₃ : length heads ≡ n = ap length eh ∙ length-replicate n 0 in
        let k₄ : length links ≡ 3 * t = ap length el ∙ length-replicate (3 * t) 0 in
        let k₅ : length rowcols ≡ n = ap length eq ∙ length-replicate n 0 in
        record {
          total = rw tags_long at q.total;
          floats_are =
              rw (front_is f₁ right n lr (omega (arith, pf, lf)), front_is f₂ row n l₂ (omega (arith, pf, lf)), front_is f₃ values (9 * t + n) l₃ (omega (arith, pf, lf)), ← side, ← er, ← ew)
              (four f f₀ f₁ f₂ f₃ right row values at.right at.row at.values pf.whole pf.long₀ pf.long₁ pf.long₂ (omega (arith, lf)) (omega (arith, lf)) (omega (arith, pf, lf)) (omega (arith, pf, lf)));
          words_are =
              rw (
                front_is w₁ starts (n + 1) k₁ (omega (arith, pw, lw)),
                front_is w₂ cols (9 * t + n) k₂ (omega (arith, pw, lw)),
                front_is w₃ heads n k₃ (omega (arith, pw, lw)),
                front_is w₄ links (3 * t) k₄ (omega (arith, pw, lw)),
                front_is w₅ rowcols n k₅ (omega (arith, pw, lw)),
                ← es,
                ← ec,
              )
              (six w w₀ w₁ w₂ w₃ w₄ w₅ starts cols heads links rowcols at.starts at.cols at.heads at.links at.rowcols pw.whole pw.long₀ pw.long₁ pw.long₂ pw.long₃ pw.long₄
              (omega (arith, lw)) (omega (arith, lw)) (omega (arith, lw)) (omega (arith, lw)) (omega (arith, pw, lw)) (omega (arith, pw, lw)) (omega (arith, pw, lw)) (omega (arith, pw, lw))
              ∙ rw (eh, el, eq));
        }
