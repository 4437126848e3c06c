-- How users see a text that is no name.
use Rattle.std.specs.Prelude.{ℕ, List, codes}
use Rattle.git_names.specs.declared.fault.NameFault.{NameFault}
use Rattle.git_names.specs.declared.fault.NameFault.TheVariants.{BadObjectName, BadRefName}

-- the fault's name, which is its whole text
abbrev pub name_fault_text : NameFault → List ℕ
name_fault_text BadObjectName = codes "BadObjectName"
name_fault_text BadRefName = codes "BadRefName"
