use Rattle.std.proofs.Common.{refl}
use Rattle.git_names.proofs.ObjectNames.{no_name_refused}
use Rattle.git_names.proofs.object_name.fault_of.Goals as goal

pub unwrap_err-requires : goal.unwrap_err-requires
unwrap_err-requires c =
    no_name_refused c.args.format c.args.text.now _ c.width.result _ c.decode_to_slice.result c.requires c.width.ensures refl c.decode_to_slice.ensures.value
