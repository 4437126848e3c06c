-- The written form is a text of the name, and a text is at most one object name.
use Rattle.git_names.proofs.ObjectNames.{one_object_name}
use Rattle.git2show_tests.proofs.names.reads_back.Goals as goal

pub returns-in-Ok : goal.returns-in-Ok
returns-in-Ok c =
    let text = c.write-count.ensures.text in
    let read = rw (text, c.format.ensures.value) at c.in-Ok.ensures.name in
    c.is_same.ensures.1 (one_object_name _ _ c.in-Ok.again c.args.id.now read c.write-count.ensures.reads_back)
