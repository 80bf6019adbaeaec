-- What the program `spiral` prints of a sheet (document 01, Length, writer, program), as numbers: the last place, both ends, and the bits of the field, norms, gradients and points.
-- Definitions only. Assumes nothing.
use Rattle.std.specs.Prelude.{ℕ, Float}
use mathlib.Core.List.{List, map, zip_with}
use Rattle.std.specs.Float.{binary64}
use Rattle.std.specs.Float.Ieee.{of_bits, to_bits, nan_bits, is_nan, add, sub, mul, div, neg, lt, le, eq, of_int}
use Rattle.binary64.specs.Number.{abs_of, clamp_of, at_least, ceil_count}
use Rattle.binary64.specs.Root.{root, root_of, root_pattern, whole_root}
use Rattle.plane.specs.Plane.{minus, dot_of, length_squared, sign_of, point_in_triangle, ray_line_intersection, barycentric_weights, interpolated}
use Rattle.stretch.specs.Vec.{dot_from, dot}
use Rattle.sparse.specs.Sparse.{row_from, row_product, mat_vec}
use Rattle.mesh.specs.Mesh.{vertex, corner, neighbour, tag_of, free, held_value}
use Rattle.laplace.specs.Assembly.{triangle_pushes, pushes, insert, inserted, row, rows, all_coupled, settled, right_side}
use Rattle.conjugate.specs.Solver.{pass as cg_pass, begun}
use Rattle.gradient.specs.Gradient.{triangle_gradient, gradient_of, gradients}
use Rattle.pde.specs.Search.{first_of}
use Rattle.pde.specs.Start.{contained_in, triangle_containing, inner_edge, inner_edge_of, first_inner, least_from, least_vertex, centroid_with, first_with, pick_start}
use Rattle.pde.specs.Exit.{distance, considered, nearest_of, names_back, entry_edge, cut_edge, cut_triangle, cut_match}
use Rattle.pde.specs.Crossing.{gradient_at, magnitude, direction, value_in, entering, entered, unentered, beyond, pieces, crossing_along, crossing}
use Rattle.pde.specs.Path.{coordinates_of, part_way, along, between, closing, walked}
use Rattle.format.specs.Bytes.{number, bytes, numbers, all_bytes}
use Rattle.format.specs.Content.{Content}
use Rattle.format.specs.Refusal.{each, finite, coordinate, positive, setting_fault, present, missing}
use Rattle.format.specs.Sheet.{Parsed, kind_of, value_of, item_of, setting_of, in_turn, adding, gathered, section, bytes_of, behind, content_of, vertices_fault, triangles_fault, neighbours_fault, tags_fault, settings_fault, fault_of, parse}
use Rattle.model.specs.Task.{task_of, task}
use Rattle.model.specs.Run.{State, matrix_of, right_of, place0, solved, solving, start_from, starting, crossed, crossing_pass, next_of, pass_by, pass, at, last_from, last_place}

pub record Shown : Type 0 where
  pub place : ℕ
  pub field_end : ℕ
  pub path_end : ℕ
  pub us : List ℕ
  pub rs : List ℕ
  pub gs : List ℕ
  pub ps : List ℕ

abbrev pub bits : List Float → List ℕ
bits xs = map (to_bits binary64) xs

abbrev pub shown_of : ℕ → State → Shown
shown_of p s = record {
  place = p;
  field_end = s.field.end;
  path_end = s.trail.walk.end;
  us = bits s.field.solve.x;
  rs = bits s.field.norms;
  gs = bits s.trail.gradients;
  ps = bits (coordinates_of s.trail.path);
}

-- Whatever unfolds this unfolds every definition that the run computes with.
unfoldable pub shown : Content → Shown
unfolding zip_with of_bits to_bits add sub mul div neg lt le eq of_int abs_of clamp_of at_least ceil_count root root_of root_pattern whole_root minus dot_of length_squared sign_of point_in_triangle ray_line_intersection barycentric_weights interpolated dot_from dot row_from row_product mat_vec vertex corner neighbour tag_of free held_value triangle_pushes pushes insert inserted row rows all_coupled settled right_side cg_pass begun triangle_gradient gradient_of gradients first_of contained_in triangle_containing inner_edge inner_edge_of first_inner least_from least_vertex centroid_with first_with pick_start distance considered nearest_of names_back entry_edge cut_edge cut_triangle cut_match gradient_at magnitude direction value_in entering entered unentered beyond crossing_along crossing pieces coordinates_of part_way along between closing walked task_of matrix_of right_of place0 solved solving start_from starting crossed crossing_pass next_of pass_by pass at last_from last_place
shown c = shown_of (last_place (task c)) (at (task c) (last_place (task c)))

-- a content's sheet, read
unfoldable pub sheet_read : Content → Parsed
unfolding of_bits to_bits nan_bits is_nan neg lt le number bytes numbers all_bytes each finite coordinate positive setting_fault present missing kind_of value_of item_of setting_of in_turn adding gathered section bytes_of behind content_of vertices_fault triangles_fault neighbours_fault tags_fault settings_fault fault_of parse
sheet_read c = parse (bytes_of c)
