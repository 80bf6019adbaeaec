-- `Laying` says what `Ready` says. Assumes nothing.
use Rattle.std.specs.Prelude.{ℕ, ◌<◌, ◌≡◌, ◌⊎◌, List}
use Rattle.std.proofs.Common.{inl, inr, arith, ⊎_elim}
use Rattle.mesh.specs.Mesh.{no_neighbour}
use Rattle.work.specs.declared.Plan.{Plan}
use Rattle.work.specs.Ready.{Ready}
use Rattle.work.specs.Laid.{Laying}
use Rattle.std.proofs.lemmas.Bool.Decides.{eqb_tells}

pub laying_of : {plan : Plan} {words : List ℕ} → Ready plan words → Laying plan words
laying_of r = record {
  n_most = r.n_most;
  t_most = r.t_most;
  limit-most = r.limit-most;
  room_least = r.room_least;
  room_most = r.room_most;
  sound = r.sound;
  corners = r.linked.corners;
  neighbours = λ k h other. ⊎_elim (λ p. absurd (other p)) (λ p. p) (r.linked.neighbours.at k h);
}

-- a number is none, or below t if it is not
none_or : (w t : ℕ) → ((w ≡ no_neighbour → ⊥) → w < t) → (w ≡ no_neighbour) ⊎ (w < t)
none_or w t h = ⊎_elim (λ p. inl p.1) (λ p. inr (h p.1)) (eqb_tells w no_neighbour)

pub ready_of : {plan : Plan} {words : List ℕ} → Laying plan words → Ready plan words
ready_of l =
    let s = l.sound in
    record {
      n_most = l.n_most;
      t_most = l.t_most;
      limit-most = l.limit-most;
      room_least = l.room_least;
      room_most = l.room_most;
      sound = s;
      linked = record {
        n_most = l.n_most;
        t_most = l.t_most;
        triangles_fit = omega (arith, s.starts_fit);
        neighbours_fit = omega (arith, s.starts_fit);
        tags_fit = omega (arith, s.starts_fit);
        corners = l.corners;
        neighbours = record { at = λ k h. none_or _ _ (l.neighbours k h) };
      };
    }
