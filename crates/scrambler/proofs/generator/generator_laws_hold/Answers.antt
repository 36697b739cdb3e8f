use Rattle.scrambler.proofs.PhaseSequence.{each_on}
use Rattle.scrambler.proofs.SampleSequence.{sampled_at}
use Rattle.scrambler.proofs.Sequences.{step_at, steps_at, back_at, backs_at, ahead_at, ago_at, octet_at_lem, mask_at}
use Rattle.scrambler.proofs.generator.generator_laws_hold.Goals as goal

pub returns : goal.returns
returns c =
    record {
      each = each_on;
      stepped = step_at;
      backed = back_at;
      next = λ u g. steps_at u g 424;
      previous = λ u g. backs_at u g 424;
      later = ahead_at;
      earlier = ago_at;
      octet = octet_at_lem;
      mask = mask_at;
      sampled = sampled_at;
    }
