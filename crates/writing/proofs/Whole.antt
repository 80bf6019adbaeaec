-- The whole writing: the steps of the refusal are the links of `refusal_of`, and the sections lie one behind the other. Assumes nothing.
use Prim.Native.Nat.{ℕ, ◌/◌, ◌≤◌}
use mathlib.Core.Path.{◌≡◌, ap, ap₂, ◌∙◌}
use mathlib.Core.List.{List, ◌++◌, map}
use native.Mathlib.Omega.{arith}
use lib.ListN.{length}
use lib.Ieee.{Float, binary64, to_bits}
use Rattle.format.specs.declared.Settings.{Settings}
use Rattle.format.specs.declared.Content as lending
use Rattle.format.specs.Bytes.{bytes}
use Rattle.format.specs.Content.{max_triangles}
use Rattle.format.specs.Refusal.{◌then◌, each, over, setting_fault, present, missing, refusal_of}
use Rattle.format.specs.Sheet.{item_of, section, bytes_of}
use Rattle.format.specs.RefusalLaws.{neither, then_assoc}
use Rattle.format.specs.SectionLaws.{over-le}
use Rattle.format.specs.SheetLaws.{length-bytes_of}
use Rattle.writing.specs.declared.putting.Output.{Output}
use Rattle.writing.proofs.Puts.{section_numbers, section-same, room_as}
use Rattle.writing.specs.Write.{lent, laid_all, Fits, HasRoom, content_by, vertices_refusal, triangles_refusal, neighbours_refusal, tags_refusal, mesh_refusal}

-- ---- refusals

pub triangles_few : (n : ℕ) (xs : List ℕ) → triangles_refusal n xs ≡ 0 → length xs / 3 ≤ 8192
unfolding triangles_refusal
triangles_few n xs h = over-le (neither (over max_triangles (length xs / 3)) _ h).first

pub refusal_steps : (vs : List Float) (ts ns gs : List ℕ) (st : Settings)
    → refusal_of (content_by vs ts ns gs st) ≡ (mesh_refusal vs ts ns gs then (each setting_fault (present st) then missing st))
unfolding refusal_of mesh_refusal vertices_refusal triangles_refusal neighbours_refusal tags_refusal
refusal_steps vs ts ns gs st = simp then_assoc

-- ---- bytes

-- the first four sections as their items are laid down, and the last one
abbrev pub laid_sheet : (n t k g : ℕ) → List Float → List ℕ → List ℕ → List ℕ → List ℕ → List ℕ
laid_sheet n t k g vs ts ns gs last =
    (bytes 4 n ++ laid_all (λ (v : Float). bytes 8 (to_bits binary64 v)) vs)
    ++ ((bytes 4 t ++ laid_all (λ (v : ℕ). bytes 4 v) ts)
    ++ ((bytes 4 k ++ laid_all (λ (v : ℕ). bytes 4 v) ns)
    ++ ((bytes 4 g ++ laid_all (λ (v : ℕ). bytes 1 v) gs)
    ++ last)))

abbrev pub laid_content : (n t m : ℕ) → lending.Content → List ℕ
laid_content n t m c = laid_sheet n t (length c.neighbours.now) (length c.tags.now) c.vertices.now c.triangles.now c.neighbours.now c.tags.now (section 9 m (map item_of (present c.settings)))

pub sheet_is : (n t m : ℕ) (c : lending.Content) → n ≡ length c.vertices.now / 2 → t ≡ length c.triangles.now / 3 → m ≡ length (present c.settings) → laid_content n t m c ≡ bytes_of (lent c)
unfolding bytes_of
sheet_is n t m c en et em =
    ap₂ (λ (x y : List ℕ). x ++ y) (section_numbers 8 n (to_bits binary64) c.vertices.now ∙ ap (λ (x : ℕ). section 8 x (map (to_bits binary64) c.vertices.now)) en)
    (ap₂ (λ (x y : List ℕ). x ++ y) (section-same 4 t c.triangles.now ∙ ap (λ (x : ℕ). section 4 x c.triangles.now) et)
    (ap₂ (λ (x y : List ℕ). x ++ y) (section-same 4 _ c.neighbours.now)
    (ap₂ (λ (x y : List ℕ). x ++ y) (section-same 1 _ c.tags.now)
    (ap (λ (x : ℕ). section 9 x (map item_of (present c.settings))) em))))

pub sheet_room : (out : Output) (n t m : ℕ) (c : lending.Content) → out.at ≡ 0 → Fits (lent c) (length out.bytes.now) → n ≡ length c.vertices.now / 2 → t ≡ length c.triangles.now / 3 → m ≡ length (present c.settings)
    → HasRoom out (laid_content n t m c)
sheet_room out n t m c z f en et em =
    room_as out (sheet_is n t m c en et em) (record { room = let l = length-bytes_of (lent c) in omega (arith, z, f.room) })
