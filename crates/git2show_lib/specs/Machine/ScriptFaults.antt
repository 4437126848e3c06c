-- How the reading of a script ends.
use Rattle.std.specs.Prelude.{ℕ, List, map}
use Rattle.git_names.specs.declared.object_format.Format.{Format}
use Rattle.git_msg.specs.Advertisement.{everything}
use Rattle.git_msg.specs.declared.requests.Request.{Request}
use Rattle.git_msg.specs.Machine.HeldRequest.{holding_of}
use Rattle.git_repository.specs.RepositoryLines.{lines_of}
use Rattle.git_repository.specs.declared.text_faults.TextFault.{TextFault}
use Rattle.git_repository.specs.declared.text_faults.TextFault.TheVariants.{Bad, OutOfMemory}
use Rattle.git2show_lib.specs.Scripts.{HasBadScriptLine, IsScript, WantsScriptMemory}

-- the text contains these requests, and nothing more is held of each
abbrev pub IsWholeScript : {A : Type 0} → Format → ℕ → List ℕ → List (Request A) → Type 0
IsWholeScript format limit text requests = IsScript (everything format) limit text (map holding_of requests)

-- why the text is no script: its first bad line, or that memory refused a list
abbrev pub IsScriptFault : (ℕ → Type 0) → ℕ → Format → ℕ → List ℕ → TextFault → Type 0
IsScriptFault refuses each format limit text (Bad line) = HasBadScriptLine (everything format) limit (lines_of text) line
IsScriptFault refuses each format limit text OutOfMemory = WantsScriptMemory refuses each (everything format) limit (lines_of text)
