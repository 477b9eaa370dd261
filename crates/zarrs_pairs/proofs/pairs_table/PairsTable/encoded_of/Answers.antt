use Rattle.zarrs_pairs.proofs.Tables.{found_by, lacking_by}
use Rattle.zarrs_pairs.specs.PairsTable.{pairs_of}
use Rattle.zarrs_pairs.proofs.pairs_table.PairsTable.encoded_of.Goals as goal

pub find-requires-clause-one : goal.find-requires-clause-one
find-requires-clause-one c = rw c.deref.ensures.value c.args.self.now.one_to_one.one_encoded

pub returns-clause-found : goal.returns-clause-found
returns-clause-found c = found_by (pairs_of c.args.self.now) c.args.decoded.now c.find.result (rw c.deref.ensures.value at c.find.ensures.value)

pub returns-clause-lacking : goal.returns-clause-lacking
returns-clause-lacking c = lacking_by (pairs_of c.args.self.now) c.args.decoded.now c.find.result (rw c.deref.ensures.value at c.find.ensures.value)
