use Rattle.zarrs_c_calls.specs.OneWriteHandle.{apart_name, out_name}
use Rattle.zarrs_c_calls.proofs.OnceLemmas.{all_kept, none_accepted, once_due, same_first, same_second}
use Rattle.zarrs_c_calls.proofs.part_writes.write_once.Goals as goal

pub returns : goal.returns
returns g c =
    let old = c.args.handle in
    let left = c.write_handle.result in
    let r = c.write_handle.new.outcome in
    let wrote = c.write_handle.ensures.left in
    record {
      answer = once_due _ old left c.requires.no_writes r _ wrote.one_write wrote.refused c.write_handle.ensures.answer;
      kept = all_kept r left.written left.out.now _ (none_accepted _ old left c.requires.no_writes r wrote.refused) left.rest;
      same_reference = same_first (out_name left) (apart_name left) (out_name old) (apart_name old) wrote.same_reference;
      lent = same_second (out_name left) (apart_name left) (out_name old) (apart_name old) wrote.same_reference;
    }
