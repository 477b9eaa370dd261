-- What is excused of a call that may lack memory is excused of one that may meet failures too.
use Rattle.std.proofs.Common.{Ok, Err}
use Rattle.zarrs_chunk.specs.Answer.{memory, fault}
use Rattle.zarrs_array_to_array.proofs.Stages.{first_false}
use Rattle.zarrs_codecs.specs.FewerExcused.{FewerAreExcused}

pub fewer_excused : FewerAreExcused
fewer_excused type (Ok held) expected h = h
fewer_excused type (Err error) expected h = λ wants. h (first_false (memory error) (fault error) wants)
