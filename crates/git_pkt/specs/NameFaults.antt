-- The error of a text that is none of Git's names.
use Rattle.git_names.specs.declared.fault.NameFault.{NameFault}
use Rattle.git_names.specs.declared.fault.NameFault.TheVariants.{BadObjectName as NoObjectName, BadRefName as NoRefName}
use Rattle.git_pkt.specs.declared.fault.Kind.{Kind}
use Rattle.git_pkt.specs.declared.fault.Kind.TheVariants.{BadObjectName, BadRefName}

abbrev pub kind_of : NameFault → Kind
kind_of NoObjectName = BadObjectName
kind_of NoRefName = BadRefName
