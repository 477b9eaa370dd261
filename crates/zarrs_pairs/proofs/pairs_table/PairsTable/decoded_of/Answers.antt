use Rattle.std.proofs.Common.{◌∙◌}
use Rattle.zarrs_pairs.proofs.Tables.{found_by_turned, lacking_by_turned}
use Rattle.zarrs_pairs.specs.PairsTable.{pairs_of}
use Rattle.zarrs_pairs.proofs.pairs_table.PairsTable.decoded_of.Goals as goal

pub find-requires-clause-one : goal.find-requires-clause-one
find-requires-clause-one c = rw c.deref.ensures.value c.args.self.now.encoded_once

pub returns-clause-found : goal.returns-clause-found
returns-clause-found c =
    let table = c.args.self.now in
    found_by_turned (pairs_of table) c.args.encoded.now c.find.result ((rw c.deref.ensures.value at c.find.ensures.value) ∙ table.turned_round c.args.encoded.now)

pub returns-clause-lacking : goal.returns-clause-lacking
returns-clause-lacking c =
    let table = c.args.self.now in
    lacking_by_turned (pairs_of table) c.args.encoded.now c.find.result ((rw c.deref.ensures.value at c.find.ensures.value) ∙ table.turned_round c.args.encoded.now)
