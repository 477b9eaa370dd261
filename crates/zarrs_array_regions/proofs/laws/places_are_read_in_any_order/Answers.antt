use Rattle.zarrs_array_regions.proofs.PlaceReads.{bytes_read, packbits_read, mapped_read, tested_read, refused_read, reads_counted}
use Rattle.zarrs_array_regions.proofs.laws.places_are_read_in_any_order.Goals as goal

pub returns-clause-bytes : goal.returns-clause-bytes
returns-clause-bytes c = bytes_read

pub returns-clause-packbits : goal.returns-clause-packbits
returns-clause-packbits c = packbits_read

pub returns-clause-each : goal.returns-clause-each
returns-clause-each c = mapped_read

pub returns-clause-tested : goal.returns-clause-tested
returns-clause-tested c = tested_read

pub returns-clause-refused : goal.returns-clause-refused
returns-clause-refused c = refused_read

pub returns-clause-counted : goal.returns-clause-counted
returns-clause-counted c = reads_counted
