use Rattle.std.proofs.Common.{string_bytes, ap, ◌∙◌}
use Rattle.std.specs.FinMap.{insert}
use Rattle.outside.specs.FileList.{NamedFile, files_of}
use Rattle.outside.proofs.FileListLemmas.{files_of-set, files_of-push}
use Rattle.outside.proofs.file_list.put.Goals as goal

pub returns-in-Some-clause-ok : goal.returns-in-Some-clause-ok
returns-in-Some-clause-ok c =
    let first = rw c.deref.ensures.value at c.in-Some.ensures in
    let same = ap (λ (file : NamedFile). string_bytes file.0) c.index_mut.ensures.value ∙ first.here c.index_mut.result.now in
    files_of-set c.args.files.now.items c.args.name.now c.in-Some.index (c.index_mut.result.now.0, c.in_ok-bytes.bytes) first same
    ∙ ap (insert (files_of c.args.files.now.items) c.args.name.now) c.in_ok-bytes.ensures.items

pub returns-in_ok-push-in-None-clause-ok : goal.returns-in_ok-push-in-None-clause-ok
returns-in_ok-push-in-None-clause-ok c =
    let none = rw c.deref.ensures.value at c.in-None.ensures in
    rw c.in_ok-push-in-None.ensures.items (
    files_of-push c.args.files.now.items c.args.name.now (c.in_ok-from_str-in-None.field-0, c.in_ok-bytes.bytes) none c.in_ok-from_str-in-None.ensures.ok
    ∙ ap (insert (files_of c.args.files.now.items) c.args.name.now) c.in_ok-bytes.ensures.items
    )
