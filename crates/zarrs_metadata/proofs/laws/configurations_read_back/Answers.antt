use Rattle.std.proofs.Common.{sym, ◌∙◌}
use Rattle.std.proofs.lemmas.Bool.{and_parts}
use Rattle.std.proofs.lemmas.List.Folds.{list_all-append}
use Rattle.zarrs_metadata.specs.Metadata.{has_no_float}
use Rattle.zarrs_metadata.specs.MetadataList.{have_no_float}
use Rattle.zarrs_metadata.proofs.ReadBack.{transpose-reads_back, reshape-reads_back, squeeze-reads_back, bytes-reads_back, packbits-reads_back, optional-reads_back, vlen-reads_back, sharding-reads_back}
use Rattle.zarrs_metadata.proofs.laws.configurations_read_back.Goals as goal

pub returns-clause-transpose : goal.returns-clause-transpose
returns-clause-transpose c = transpose-reads_back

pub returns-clause-reshape : goal.returns-clause-reshape
returns-clause-reshape c = reshape-reads_back

pub returns-clause-squeeze : goal.returns-clause-squeeze
returns-clause-squeeze c = squeeze-reads_back

pub returns-clause-bytes : goal.returns-clause-bytes
returns-clause-bytes c = bytes-reads_back

pub returns-clause-packbits : goal.returns-clause-packbits
returns-clause-packbits c = packbits-reads_back

pub returns-clause-optional : goal.returns-clause-optional
returns-clause-optional c = optional-reads_back

pub returns-clause-vlen : goal.returns-clause-vlen
returns-clause-vlen c = vlen-reads_back

pub returns-clause-sharding : goal.returns-clause-sharding
returns-clause-sharding c = λ parts clean positive.
    let both = sym (list_all-append (λ m. has_no_float m.configuration) parts.codecs parts.index_codecs) ∙ clean in
    let each = and_parts (have_no_float parts.codecs) (have_no_float parts.index_codecs) both in
    sharding-reads_back parts positive each.0 each.1
