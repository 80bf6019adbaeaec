-- The sheet format's theorems. Reading and writing are inverse: what a byte string is read as is written as that string (`parse-bytes`), and what a content that is not refused
-- is written as is read as that content (`bytes-parse`). What is accepted meets every range of document 01's section Sheet (`parse_sound`), and what meets them all is
-- accepted (`parse_complete`).
-- Assumes nothing.
use Rattle.std.specs.Prelude.{ℕ, Option, Some, None, is_some, suc, ◌*◌, ◌^◌, ◌≤◌, ◌<◌, ◌≡◌, refl, Bool, true, false, ◌&&◌, ◌⊎◌, List, [], ◌∷◌, ◌++◌, map, T, leb, ltb, eqb, length, get_or, drop, Float}
use Rattle.std.proofs.Common.{zero-le, suc-le-suc, sym, ap, ap₂, ◌∙◌, subst, inl, inr, append-nil, arith, ltb-true, lt-ltb, leb-true, le-leb, eqb-true, eq-eqb}
use Rattle.std.proofs.Math.Bool
use Rattle.std.proofs.lemmas.List.{length-map}
use Rattle.std.specs.Float.{nan, inf, fin, binary64}
use Rattle.std.specs.Float.Ieee.{of_bits, to_bits, nan_bits, is_nan, lt, le, eq}
use Rattle.std.specs.Float.Ieee.Bits.{of_bits-to_bits, to_bits-lt, nan_bits_is}
use Rattle.binary64.specs.Constants.{plus_zero}
use Rattle.binary64.specs.Number.{pick}
use Rattle.format.specs.declared.Settings.{Settings}
use Rattle.format.specs.Setting.{Setting, Limit, Tolerance, Step, StartX, StartY, Room}
use Rattle.format.specs.Bytes.{Bytes}
use Rattle.format.specs.Content.{Content, vertex_count, triangle_count, max_vertices, max_triangles, max_settings, max_tag, max_limit, max_room, no_neighbour}
use Rattle.format.specs.Refusal.{each, over, unlike, vertex_fault, neighbour_fault, tag_fault, real_fault, finite, coordinate, positive, coordinate_fault, whole_fault, setting_fault, given, present, missing, refusal_of}
use Rattle.format.specs.Sheet.{item_of, item_setting, in_turn, no_settings, gathered, section, bytes_of, count, behind, from2, from3, from4, from5, leftover, vertices_in, triangles_in, neighbours_in, tags_in, items_in, content_of, accepted, parse}
use Rattle.format.specs.Range.{Coordinate, Finite, Between, IfGiven, InRange, Double, Doubles}
use Rattle.format.specs.Range as range
use Rattle.format.specs.BytesLaws.{Under, under_nil, under_cons, under_head, under_tail, bytes_drop, length-numbers, numbers_under}
use Rattle.format.specs.RefusalLaws.{Neither, neither, then_none, passes, pick_true, Both, both, and_true, proper, real_none, each_at, each_none, each_append}
use Rattle.format.specs.SectionLaws.{Goes, goes, section_back, bytes-behind, over-le, le-over, unlike-eq, eq-unlike}
use Rattle.format.specs.SettingLaws.{pattern_back, InTurn, in_turn_lem, settings_back, items_in_turn, present-gathered, present_none, fresh_none, gathered-present, present_rising, present_double, present_few, items_under, AllDouble}
use Rattle.format.specs.SheetLaws.{Clean, clean, refusal_none, Faultless, faultless, fault_none, length_vertices, vertex_count_lem, triangle_count_lem, Reads, reads, accepts}

-- ---- patterns

patterns_back : (ps : List ℕ) → Under (2 ^ 64) ps → each coordinate_fault (map (of_bits binary64) ps) ≡ 0 → map (to_bits binary64) (map (of_bits binary64) ps) ≡ ps
unfolding each
patterns_back [] u h = refl
patterns_back (p ∷ ps) u h =
    let q : Neither (coordinate_fault (of_bits binary64 p)) (each coordinate_fault (map (of_bits binary64) ps)) = neither _ _ h in
    let n : nan_bits binary64 p ≡ false = nan_bits_is binary64 p ∙ (proper coordinate (of_bits binary64 p) q.first).number in
    ap₂ (λ (y : ℕ) (ys : List ℕ). y ∷ ys)
    (pattern_back p (under_head u) n)
    (patterns_back ps (under_tail u) q.second)

floats_back : (xs : List Float) → ((i : ℕ) → i < length xs → Double (get_or xs i nan)) → map (of_bits binary64) (map (to_bits binary64) xs) ≡ xs
floats_back [] d = refl
floats_back (x ∷ xs) d =
    ap₂ (λ (y : Float) (ys : List Float). y ∷ ys) (of_bits-to_bits binary64 x (d 0 (suc-le-suc zero-le))) (floats_back xs (λ i h. d (suc i) (suc-le-suc h)))

floats_under : (xs : List Float) → ((i : ℕ) → i < length xs → Double (get_or xs i nan)) → Under (256 ^ 8) (map (to_bits binary64) xs)
floats_under [] d = under_nil
floats_under (x ∷ xs) d = under_cons (to_bits-lt binary64 x (d 0 (suc-le-suc zero-le))) (floats_under xs (λ i h. d (suc i) (suc-le-suc h)))

-- ---- from bytes and back

nil : (s : List ℕ) → length s ≡ 0 → s ≡ []
nil [] h = refl
nil (x ∷ s) h = absurd (omega arith)

-- the settings of a sheet are those that its items say
record Listed (s : List ℕ) : Type 0 where
  turn : InTurn 0 (items_in s)
  listed : present (gathered no_settings (map item_setting (items_in s))) ≡ map item_setting (items_in s)

listed : (s : List ℕ) → Bytes s → in_turn 0 (items_in s) ≡ 0 → Listed s
listed s h e =
    let t : InTurn 0 (items_in s) = in_turn_lem 0 (items_in s) (numbers_under 9 (count s) (bytes_drop 4 h)) e in
    record {
      turn = t;
      listed = present-gathered 0 no_settings (map item_setting (items_in s)) fresh_none t.rising ∙ ap (λ (l : List Setting). l ++ map item_setting (items_in s)) present_none;
    }

pub bytes_content : (b : List ℕ) → Bytes b → Faultless b → bytes_of (content_of b) ≡ b
unfolding bytes_of content_of
bytes_content b h1 f =
    let h2 : Bytes (from2 b) = bytes-behind 16 h1 in
    let h3 : Bytes (from3 b) = bytes-behind 12 h2 in
    let h4 : Bytes (from4 b) = bytes-behind 4 h3 in
    let h5 : Bytes (from5 b) = bytes-behind 1 h4 in
    let l : Listed (from5 b) = listed (from5 b) h5 f.items in
    let ss : List Setting = map item_setting (items_in (from5 b)) in
    section_back 8 16 (2 * count b) _ b _ _ h1 (omega arith) f.vertices.whole (vertex_count_lem b) (patterns_back _ (numbers_under 8 (2 * count b) (bytes_drop 4 h1)) f.coordinates)
    (section_back 4 12 (3 * count (from2 b)) _ (from2 b) _ _ h2 (omega arith) f.triangles.whole (triangle_count_lem b) refl
    (section_back 4 4 (count (from3 b)) _ (from3 b) _ _ h3 refl f.edges.whole (length-numbers 4 (count (from3 b)) (drop 4 (from3 b))) refl
    (section_back 1 1 (count (from4 b)) _ (from4 b) _ _ h4 refl f.tagged.whole (length-numbers 1 (count (from4 b)) (drop 4 (from4 b))) refl
    (sym (append-nil _)
    ∙ section_back 9 9 (count (from5 b)) _ (from5 b) _ _ h5 refl f.settings.whole
    (ap length l.listed ∙ length-map (items_in (from5 b)) item_setting ∙ length-numbers 9 (count (from5 b)) (drop 4 (from5 b)))
    (ap (map item_of) l.listed ∙ l.turn.back)
    (sym (nil (leftover b) f.whole))))))

pub parse-bytes : (b : List ℕ) (c : Content) → Bytes b → parse b ≡ accepted c → bytes_of c ≡ b
parse-bytes b c h e =
    let r : Reads b c = reads b c e in
    sym (ap bytes_of r.content) ∙ bytes_content b h (faultless b r.clean)

-- ---- to bytes and back

each_under : (f : ℕ → ℕ) (bound : ℕ) → ((x : ℕ) → f x ≡ 0 → x < bound) → (xs : List ℕ) → each f xs ≡ 0 → Under bound xs
each_under f bound h xs e = record { below = λ i l. h (get_or xs i 0) (each_at f xs 0 i e l) }

vertex_below : (n x : ℕ) → vertex_fault n x ≡ 0 → x < n
vertex_below n x h = ltb-true x n (passes (ltb x n) 3 h)

neighbour_is : (T x : ℕ) → neighbour_fault T x ≡ 0 → (x ≡ no_neighbour) ⊎ (x < T)
neighbour_is T x h = go (eqb x no_neighbour) refl h
  where
    go : (t : Bool) → eqb x no_neighbour ≡ t → pick t 0 (vertex_fault T x) ≡ 0 → (x ≡ no_neighbour) ⊎ (x < T)
    go true e h = inl (eqb-true x no_neighbour e)
    go false e h = inr (vertex_below T x h)

neighbour-small : (T x : ℕ) → T ≤ max_triangles → neighbour_fault T x ≡ 0 → x < 256 ^ 4
neighbour-small T x l h = go (neighbour_is T x h)
  where
    go : (x ≡ no_neighbour) ⊎ (x < T) → x < 256 ^ 4
    go (inl e) = omega arith
    go (inr g) = omega arith

tag_le : (x : ℕ) → tag_fault x ≡ 0 → x ≤ max_tag
tag_le x h = leb-true x max_tag (passes (leb x max_tag) 3 h)

-- the sheet of a content, section by section
record Written (c : Content) : Type 0 where
  s1 : Goes 8 16 (vertex_count c) (map (to_bits binary64) c.vertices) (from2 (bytes_of c)) (bytes_of c)
  s2 : Goes 4 12 (triangle_count c) c.triangles (from3 (bytes_of c)) (from2 (bytes_of c))
  s3 : Goes 4 4 (length c.neighbours) c.neighbours (from4 (bytes_of c)) (from3 (bytes_of c))
  s4 : Goes 1 1 (length c.tags) c.tags (from5 (bytes_of c)) (from4 (bytes_of c))
  s5 : Goes 9 9 (length (present c.settings)) (map item_of (present c.settings)) [] (from5 (bytes_of c))

again : (w size k : ℕ) (xs t s : List ℕ) → Goes w size k xs t s → Goes w size k xs (behind size s) s
again w size k xs t s g = record { counted = g.counted; items = g.items; next = refl; head = g.head }

written : (c : Content) → Clean c → AllDouble (present c.settings) → Doubles c → Written c
unfolding bytes_of
written c k a d =
    let n = vertex_count c in
    let T = triangle_count c in
    let ps = map (to_bits binary64) c.vertices in
    let ss = present c.settings in
    let few : length ss ≤ 6 = present_few c.settings in
    let S5 = section 9 (length ss) (map item_of ss) in
    let S4 = section 1 (length c.tags) c.tags ++ S5 in
    let S3 = section 4 (length c.neighbours) c.neighbours ++ S4 in
    let S2 = section 4 T c.triangles ++ S3 in
    let e1 : 16 * n ≡ 8 * length ps = omega (arith, length-map c.vertices (to_bits binary64), k.pairs) in
    let e2 : 12 * T ≡ 4 * length c.triangles = omega (arith, k.triples) in
    let e5 : 9 * length ss ≡ 9 * length (map item_of ss) = ap (λ (m : ℕ). 9 * m) (sym (length-map ss item_of)) in
    let l1 : n < 2 ^ 32 = omega (arith, k.vertices) in
    let l2 : T < 2 ^ 32 = omega (arith, k.triangles) in
    let l3 : length c.neighbours < 2 ^ 32 = omega (arith, k.triangles, k.edges) in
    let l4 : length c.tags < 2 ^ 32 = omega (arith, k.vertices, k.tagged) in
    let u2 : Under (256 ^ 4) c.triangles = each_under (vertex_fault n) (256 ^ 4) (λ x h. omega (arith, vertex_below n x h, k.vertices)) c.triangles k.corners in
    let u3 : Under (256 ^ 4) c.neighbours = each_under (neighbour_fault T) (256 ^ 4) (λ x h. neighbour-small T x k.triangles h) c.neighbours k.neighbours in
    let u4 : Under (256 ^ 1) c.tags = each_under tag_fault (256 ^ 1) (λ x h. omega (arith, tag_le x h)) c.tags k.tags in
    let g1 : Goes 8 16 n ps S2 (bytes_of c) = goes 8 16 n ps S2 (bytes_of c) refl l1 e1 (floats_under c.vertices d.vertices) in
    let g2 : Goes 4 12 T c.triangles S3 (from2 (bytes_of c)) = goes 4 12 T c.triangles S3 _ g1.next l2 e2 u2 in
    let g3 : Goes 4 4 (length c.neighbours) c.neighbours S4 (from3 (bytes_of c)) = goes 4 4 _ c.neighbours S4 _ g2.next l3 refl u3 in
    let g4 : Goes 1 1 (length c.tags) c.tags S5 (from4 (bytes_of c)) = goes 1 1 _ c.tags S5 _ g3.next l4 refl u4 in
    let g5 : Goes 9 9 (length ss) (map item_of ss) [] (from5 (bytes_of c)) =
    goes 9 9 _ (map item_of ss) [] _ (g4.next ∙ sym (append-nil S5)) (omega arith) e5 (items_under ss k.settings a) in
    record { s1 = again _ _ _ _ _ _ g1; s2 = again _ _ _ _ _ _ g2; s3 = again _ _ _ _ _ _ g3; s4 = again _ _ _ _ _ _ g4; s5 = g5 }

-- each list is read again
record Again (c : Content) (b : List ℕ) : Type 0 where
  vertices : vertices_in b ≡ c.vertices
  triangles : triangles_in (from2 b) ≡ c.triangles
  neighbours : neighbours_in (from3 b) ≡ c.neighbours
  tags : tags_in (from4 b) ≡ c.tags
  items : items_in (from5 b) ≡ map item_of (present c.settings)
  settings : gathered no_settings (map item_setting (items_in (from5 b))) ≡ c.settings

read_again : (c : Content) → Clean c → AllDouble (present c.settings) → Doubles c → Written c → Again c (bytes_of c)
read_again c k a d w =
    let b = bytes_of c in
    let ss = present c.settings in
    let i : items_in (from5 b) ≡ map item_of ss = w.s5.items _ (w.s5.counted ∙ sym (length-map ss item_of)) in
    let e : 2 * count b ≡ length (map (to_bits binary64) c.vertices) = omega (arith, w.s1.counted, k.pairs, length-map c.vertices (to_bits binary64)) in
    let f : 3 * count (from2 b) ≡ length c.triangles = omega (arith, w.s2.counted, k.triples) in
    record {
      vertices = ap (map (of_bits binary64)) (w.s1.items _ e) ∙ floats_back c.vertices d.vertices;
      triangles = w.s2.items _ f;
      neighbours = w.s3.items _ w.s3.counted;
      tags = w.s4.items _ w.s4.counted;
      items = i;
      settings = ap (λ (xs : List ℕ). gathered no_settings (map item_setting xs)) i ∙ ap (gathered no_settings) (settings_back ss k.settings a) ∙ gathered-present c.settings;
    }

content_again : (c : Content) (b : List ℕ) → Again c b → content_of b ≡ c
unfolding content_of
content_again c b r = λ i. record { vertices = r.vertices i; triangles = r.triangles i; neighbours = r.neighbours i; tags = r.tags i; settings = r.settings i }

faultless_again : (c : Content) → Clean c → AllDouble (present c.settings) → Written c → Again c (bytes_of c) → Faultless (bytes_of c)
faultless_again c k a w r =
    let n : count (bytes_of c) ≡ vertex_count c = w.s1.counted in
    let m : count (from2 (bytes_of c)) ≡ triangle_count c = w.s2.counted in
    let g : length c.tags ≡ count (bytes_of c) = k.tagged ∙ sym n in
    let q : length c.neighbours ≡ 3 * count (from2 (bytes_of c)) = omega (arith, k.edges, m) in
    record {
      vertices = w.s1.head (over max_vertices) (le-over k.vertices);
      coordinates = ap (each coordinate_fault) r.vertices ∙ k.coordinates;
      triangles = w.s2.head (over max_triangles) (le-over k.triangles);
      corners = ap₂ (λ (j : ℕ) (l : List ℕ). each (vertex_fault j) l) n r.triangles ∙ k.corners;
      edges = w.s3.head (unlike (3 * count (from2 (bytes_of c)))) (eq-unlike q);
      neighbours = ap₂ (λ (j : ℕ) (l : List ℕ). each (neighbour_fault j) l) m r.neighbours ∙ k.neighbours;
      tagged = w.s4.head (unlike (count (bytes_of c))) (eq-unlike g);
      tags = ap (each tag_fault) r.tags ∙ k.tags;
      settings = w.s5.head (over max_settings) (le-over (present_few c.settings));
      items = ap (in_turn 0) r.items ∙ items_in_turn 0 (present c.settings) (present_rising c.settings) k.settings a;
      whole = ap length w.s5.next;
      given = ap (λ (d : Content). missing d.settings) (content_again c (bytes_of c) r) ∙ k.given;
    }

pub bytes-parse : (c : Content) → Doubles c → refusal_of c ≡ 0 → parse (bytes_of c) ≡ accepted c
bytes-parse c d h =
    let k : Clean c = clean c h in
    let a : AllDouble (present c.settings) = present_double c.settings d.tolerance d.step d.x d.y in
    let w : Written c = written c k a d in
    let r : Again c (bytes_of c) = read_again c k a d w in
    accepts (bytes_of c) c (fault_none (faultless_again c k a w r)) (content_again c (bytes_of c) r)

-- ---- what is not refused is in range

nan_below : (x : Float) → le x nan ≡ false
unfolding le lt eq
nan_below nan = refl
nan_below (inf s) = refl
nan_below (fin s m e) = refl

no_nan : (x : Float) → (x ≡ nan → ⊥) → is_nan x ≡ false
unfolding is_nan
no_nan nan h = absurd (h refl)
no_nan (inf s) h = refl
no_nan (fin s m e) h = refl

differ : true ≡ false → ⊥
differ e = let z : ◌≡◌ {A = ℕ} 0 1 = cc in omega arith

finite_number : (x : Float) → finite x ≡ true → is_nan x ≡ false
unfolding finite is_nan
finite_number nan h = sym h
finite_number (inf s) h = refl
finite_number (fin s m e) h = refl

pub coordinate_in : (x : Float) → coordinate_fault x ≡ 0 → Coordinate x
unfolding coordinate
coordinate_in x h =
    let p : Both _ _ = both _ _ (proper coordinate x h).is in
    record { least = p.left; greatest = p.right }

pub coordinate_none : (x : Float) → Coordinate x → coordinate_fault x ≡ 0
unfolding coordinate
coordinate_none x h =
    real_none coordinate x (no_nan x (λ e. differ (sym h.least ∙ ap (le _) e ∙ nan_below _))) (and_true h.least h.greatest)

finite_in : (x : Float) → real_fault finite x ≡ 0 → Finite x
finite_in x h = record { is = (proper finite x h).is }

finite_none : (x : Float) → Finite x → real_fault finite x ≡ 0
finite_none x h = real_none finite x (finite_number x h.is) h.is

step_in : (x : Float) → real_fault positive x ≡ 0 → range.Step x
unfolding positive
step_in x h =
    let p : Both (finite x) (lt plus_zero x) = both _ _ (proper positive x h).is in
    record { is = p.left; above = p.right }

step_none : (x : Float) → range.Step x → real_fault positive x ≡ 0
unfolding positive
step_none x h = real_none positive x (finite_number x h.is) (and_true h.is h.above)

whole_in : (low high v : ℕ) → whole_fault low high v ≡ 0 → Between low high v
whole_in low high v h =
    let p : Both (leb low v) (leb v high) = both _ _ (passes (leb low v && leb v high) 6 h) in
    record { least = leb-true low v p.left; greatest = leb-true v high p.right }

whole_none : (low high v : ℕ) → Between low high v → whole_fault low high v ≡ 0
whole_none low high v h = pick_true 0 7 (and_true (le-leb low v h.least) (le-leb v high h.greatest))

-- ---- settings

given_each : {A : Type 0} (make : A → Setting) (P : A → Type 0) → ((v : A) → setting_fault (make v) ≡ 0 → P v) → (w : Option A) → each setting_fault (given make w) ≡ 0 → IfGiven P w
unfolding each
given_each make P f None h = tt
given_each make P f (Some v) h = f v (neither (setting_fault (make v)) 0 h).first

each-given : {A : Type 0} (make : A → Setting) (P : A → Type 0) → ((v : A) → P v → setting_fault (make v) ≡ 0) → (w : Option A) → IfGiven P w → each setting_fault (given make w) ≡ 0
unfolding each
each-given make P f None h = refl
each-given make P f (Some v) h = then_none (f v h) refl

split : (xs ys : List Setting) → each setting_fault (xs ++ ys) ≡ 0 → Neither (each setting_fault xs) (each setting_fault ys)
split xs ys h = neither _ _ (sym (each_append setting_fault xs ys) ∙ h)

join : (xs ys : List Setting) → each setting_fault xs ≡ 0 → each setting_fault ys ≡ 0 → each setting_fault (xs ++ ys) ≡ 0
join xs ys p q = each_append setting_fault xs ys ∙ then_none p q

record Values (s : Settings) : Type 0 where
  limit : IfGiven (Between 0 max_limit) s.limit
  tolerance : IfGiven Finite s.tolerance
  step : IfGiven range.Step s.step
  x : IfGiven Coordinate s.x
  y : IfGiven Coordinate s.y
  room : IfGiven (Between 1 max_room) s.room

values_in_lem : (s : Settings) → each setting_fault (present s) ≡ 0 → Values s
unfolding present setting_fault
values_in_lem s h =
    let p1 : Neither _ _ = split (given Limit s.limit) _ h in
    let p2 : Neither _ _ = split (given Tolerance s.tolerance) _ p1.second in
    let p3 : Neither _ _ = split (given Step s.step) _ p2.second in
    let p4 : Neither _ _ = split (given StartX s.x) _ p3.second in
    let p5 : Neither _ _ = split (given StartY s.y) _ p4.second in
    record {
      limit = given_each Limit (Between 0 max_limit) (whole_in 0 max_limit) s.limit p1.first;
      tolerance = given_each Tolerance Finite finite_in s.tolerance p2.first;
      step = given_each Step range.Step step_in s.step p3.first;
      x = given_each StartX Coordinate coordinate_in s.x p4.first;
      y = given_each StartY Coordinate coordinate_in s.y p5.first;
      room = given_each Room (Between 1 max_room) (whole_in 1 max_room) s.room p5.second;
    }

values_none : (s : Settings) → Values s → each setting_fault (present s) ≡ 0
unfolding present setting_fault
values_none s h =
    join (given Limit s.limit) _ (each-given Limit (Between 0 max_limit) (whole_none 0 max_limit) s.limit h.limit)
    (join (given Tolerance s.tolerance) _ (each-given Tolerance Finite finite_none s.tolerance h.tolerance)
    (join (given Step s.step) _ (each-given Step range.Step step_none s.step h.step)
    (join (given StartX s.x) _ (each-given StartX Coordinate coordinate_none s.x h.x)
    (join (given StartY s.y) _ (each-given StartY Coordinate coordinate_none s.y h.y)
    (each-given Room (Between 1 max_room) (whole_none 1 max_room) s.room h.room)))))

same : (a b : Bool) → Bool.beq a b ≡ true → a ≡ b
same true true h = refl
same true false h = sym h
same false true h = h
same false false h = refl

beq : (a : Bool) → Bool.beq a a ≡ true
beq true = refl
beq false = refl

record Complete (s : Settings) : Type 0 where
  step : is_some s.step ≡ true
  room : is_some s.room ≡ true
  start : is_some s.x ≡ is_some s.y

complete : (s : Settings) → missing s ≡ 0 → Complete s
unfolding missing
complete s h =
    let p : Both (is_some s.step && is_some s.room) (Bool.beq (is_some s.x) (is_some s.y)) = both _ _ (passes _ 4 h) in
    let q : Both (is_some s.step) (is_some s.room) = both _ _ p.left in
    record { step = q.left; room = q.right; start = same _ _ p.right }

none_missing : (s : Settings) → Complete s → missing s ≡ 0
unfolding missing
none_missing s h =
    pick_true 0 5 (and_true (and_true h.step h.room) (ap (λ (t : Bool). Bool.beq (is_some s.x) t) (sym h.start) ∙ beq (is_some s.x)))

-- ---- range

pub refusal_sound : (c : Content) → refusal_of c ≡ 0 → InRange c
refusal_sound c h =
    let k : Clean c = clean c h in
    let v : Values c.settings = values_in_lem c.settings k.settings in
    let m : Complete c.settings = complete c.settings k.given in
    record {
      pairs = k.pairs;
      vertices = k.vertices;
      coordinates = λ i l. coordinate_in _ (each_at coordinate_fault c.vertices nan i k.coordinates l);
      triples = k.triples;
      triangles = k.triangles;
      corners = λ i l. vertex_below _ _ (each_at (vertex_fault (vertex_count c)) c.triangles 0 i k.corners l);
      edges = k.edges;
      neighbours = λ i l. neighbour_is _ _ (each_at (neighbour_fault (triangle_count c)) c.neighbours 0 i k.neighbours l);
      tagged = k.tagged;
      tags = λ i l. tag_le _ (each_at tag_fault c.tags 0 i k.tags l);
      limit = v.limit;
      tolerance = v.tolerance;
      step = v.step;
      x = v.x;
      y = v.y;
      room = v.room;
      step_given = m.step;
      room_given = m.room;
      start_together = m.start;
    }

neighbour_none : (T x : ℕ) → (x ≡ no_neighbour) ⊎ (x < T) → neighbour_fault T x ≡ 0
neighbour_none T x (inl e) = pick_true 0 (vertex_fault T x) (eq-eqb x no_neighbour e)
neighbour_none T x (inr h) = go (eqb x no_neighbour)
  where
    go : (t : Bool) → pick t 0 (vertex_fault T x) ≡ 0
    go true = refl
    go false = pick_true 0 4 (lt-ltb x T h)

pub refusal_complete : (c : Content) → InRange c → refusal_of c ≡ 0
refusal_complete c h =
    refusal_none
    (record {
      vertices = h.vertices;
      pairs = h.pairs;
      coordinates = each_none coordinate_fault c.vertices nan (λ i l. coordinate_none _ (h.coordinates i l));
      triangles = h.triangles;
      triples = h.triples;
      corners = each_none (vertex_fault (vertex_count c)) c.triangles 0 (λ i l. pick_true 0 4 (lt-ltb _ _ (h.corners i l)));
      edges = h.edges;
      neighbours = each_none (neighbour_fault (triangle_count c)) c.neighbours 0 (λ i l. neighbour_none _ _ (h.neighbours i l));
      tagged = h.tagged;
      tags = each_none tag_fault c.tags 0 (λ i l. pick_true 0 4 (le-leb _ _ (h.tags i l)));
      settings = values_none c.settings (record { limit = h.limit; tolerance = h.tolerance; step = h.step; x = h.x; y = h.y; room = h.room });
      given = none_missing c.settings (record { step = h.step_given; room = h.room_given; start = h.start_together });
    })

-- the sheet of a content in range is accepted, and read as that content
pub parse_complete : (c : Content) → InRange c → Doubles c → parse (bytes_of c) ≡ accepted c
parse_complete c h d = bytes-parse c d (refusal_complete c h)

-- what is read from a sheet is no more refused than the sheet
content_clean : (b : List ℕ) → Bytes b → Faultless b → Clean (content_of b)
unfolding content_of
content_clean b h f =
    let n : vertex_count (content_of b) ≡ count b = vertex_count_lem b in
    let m : triangle_count (content_of b) ≡ count (from2 b) = triangle_count_lem b in
    let l : Listed (from5 b) = listed (from5 b) (bytes-behind 1 (bytes-behind 4 (bytes-behind 12 (bytes-behind 16 h)))) f.items in
    record {
      vertices = subst (λ (j : ℕ). j ≤ max_vertices) (sym n) (over-le f.vertices.counted);
      pairs = omega (arith, length_vertices b);
      coordinates = f.coordinates;
      triangles = subst (λ (j : ℕ). j ≤ max_triangles) (sym m) (over-le f.triangles.counted);
      triples = omega (arith, length-numbers 4 (3 * count (from2 b)) (drop 4 (from2 b)));
      corners = ap (λ (j : ℕ). each (vertex_fault j) (triangles_in (from2 b))) n ∙ f.corners;
      edges = length-numbers 4 (count (from3 b)) (drop 4 (from3 b)) ∙ unlike-eq f.edges.counted ∙ ap (λ (j : ℕ). 3 * j) (sym m);
      neighbours = ap (λ (j : ℕ). each (neighbour_fault j) (neighbours_in (from3 b))) m ∙ f.neighbours;
      tagged = length-numbers 1 (count (from4 b)) (drop 4 (from4 b)) ∙ unlike-eq f.tagged.counted ∙ sym n;
      tags = f.tags;
      settings = ap (each setting_fault) l.listed ∙ l.turn.clean;
      given = f.given;
    }

pub parse_refusal : (b : List ℕ) (c : Content) → Bytes b → parse b ≡ accepted c → refusal_of c ≡ 0
parse_refusal b c h e =
    let r : Reads b c = reads b c e in
    sym (ap refusal_of r.content) ∙ refusal_none (content_clean b h (faultless b r.clean))

pub parse_sound : (b : List ℕ) (c : Content) → Bytes b → parse b ≡ accepted c → InRange c
parse_sound b c h e = refusal_sound c (parse_refusal b c h e)
