use Rattle.zarrs_chain.proofs.FrontWrites.{plain_bytes}
use Rattle.zarrs_chain.proofs.moved_into.bytes_alone.Goals as goal

pub returns-in-Bytes-empty-clause-codec : goal.returns-in-Bytes-empty-clause-codec
returns-in-Bytes-empty-clause-codec g c = plain_bytes c.args.chain.now.array_to_bytes c.in-Bytes-empty.codec c.in-Bytes-empty.is-0
