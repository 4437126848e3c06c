use Rattle.git_names.specs.ObjectName.{Decodes}
use Rattle.git_names.proofs.ObjectNames.{IsOid-of_text, named}
use Rattle.git_names.proofs.object_name.Oid.read.Goals.{in-Sha1, in-Sha256}
use Rattle.git_names.proofs.object_name.Oid.read.Goals as goal

pub invariant_of-result : goal.invariant_of-result
invariant_of-result c =
    let decodes : Decodes c.args.format c.args.text.now c.match-format.decoded = elim c.match-format.branch [
      | in-Sha1 w ↦ rw (w.in-Sha1.is, w.decoded-is) w.decode_20-decoded.ensures.value
      | in-Sha256 w ↦ rw (w.in-Sha256.is, w.decoded-is) w.decode_32-decoded.ensures.value
    ] in
    IsOid-of_text c.args.format c.args.text.now _ (named c.args.format c.args.text.now c.in-Some.bytes c.match-format.decoded decodes c.in-Some.is)
