-- What the theorem over lists of calls takes of the image holds of every task whose sizes are in range: `Facts` and `Parts`. Assumes nothing.
use Rattle.std.specs.Prelude.{ℕ, Option, Some, None}
use Rattle.std.proofs.Common.{arith}
use Rattle.model.specs.Task.{Task}
use Rattle.model.specs.Run.{at, matrix_of, last_place}
use Rattle.model.specs.Sized.{Sized}
use Rattle.model.proofs.SizeLaws.{right_length}
use Rattle.model.proofs.RunLaws.{last_bound, vectors_sized, gradients_sized, norms_bound, points_bound}
use Rattle.image.proofs.ImageFacts.{MarkIn, Facts, Parts}
use Rattle.image.proofs.ImageLawsGoes as Goes
use Rattle.image.proofs.ImageLawsLengths.{shaped_at, few, length_floats, length_words, length_points, length_path}
use Rattle.image.proofs.ImageLawsMatrix.{length_values}
use Rattle.image.proofs.ImageLawsRead.{matrix-image}
use Rattle.image.proofs.ImageLawsSeek as Seek
use Rattle.image.proofs.ImageLawsSound as Sound

module _ (c : Task) (z : Sized c) where
  marked : (m : Option ℕ) → MarkIn m (last_place c) → Sound.MarkIn c z m
  marked None h = tt
  marked (Some q) h = h

  pub facts : Facts c
  facts = record {
    seek-image = λ p target m floats words path h k. Seek.seek-image c z floats words path p target h m;
    mark_image = λ p m floats h k. Goes.mark_image c z p m floats;
    last_bound = last_bound c;
    stand_sound_lem = λ p h. Sound.stand_sound_lem c z p h;
    mark_sound_lem = λ m h. Sound.mark_sound_lem c z m (marked m h);
    words_sound_lem = λ words. Sound.words_sound_lem c z words;
    floats_long = λ p m floats h k. length_floats c z (at c p) (shaped_at c z p) m floats;
    words_long = λ words. length_words c z words;
    path_long = λ p path h. length_path c z (at c p) (shaped_at c z p) path;
  }

  pub parts : Parts c
  parts = record {
    read_back = λ p m floats words h k. matrix-image c z (at c p) (shaped_at c z p) m floats words;
    right_long = right_length c;
    values_long = omega (arith, few c z, length_values (matrix_of c));
    x_long = λ p h. (vectors_sized c p).x;
    r_long = λ p h. (vectors_sized c p).r;
    p_long = λ p h. (vectors_sized c p).p;
    gradients_long = λ p h. gradients_sized c p;
    norms_long = λ p h. norms_bound c p;
    path_counted = λ p h. length_points c z (at c p) (shaped_at c z p);
    points_in_lem = λ p h. points_bound c z.room p;
  }
