-- What a header that was read is seen as.
use Rattle.zarrs_chain.specs.ChainView.{plain_chain}
use Rattle.zarrs_json.specs.Header as plain
use Rattle.zarrs_json.specs.declared.header.ChunkHeader.{ChunkHeader}

-- a header that was read, as plain data
abbrev pub header_seen : ChunkHeader → plain.Header
header_seen header =
    record { sizes = header.shape; data_type = header.data_type; fill = header.fill_value; chain = plain_chain header.chain }
