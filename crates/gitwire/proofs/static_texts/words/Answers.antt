use Rattle.std.proofs.Common.{ap, Some, sym}
use Rattle.git_pkt.specs.declared.fault.Kind.{Kind}
use Rattle.gitwire.specs.StaticTexts.{words_of}
use Rattle.gitwire.proofs.static_texts.words.Goals as goal

pub returns-in-BadRefName : goal.returns-in-BadRefName
returns-in-BadRefName c = ap (λ (kind : Kind). words_of (Some kind)) (sym c.in-BadRefName.is)

pub returns-in-UnknownRef : goal.returns-in-UnknownRef
returns-in-UnknownRef c = ap (λ (kind : Kind). words_of (Some kind)) (sym c.in-UnknownRef.is)

pub returns-in-PackSource : goal.returns-in-PackSource
returns-in-PackSource c = ap (λ (kind : Kind). words_of (Some kind)) (sym c.in-PackSource.is)

pub returns-in-WriteFault : goal.returns-in-WriteFault
returns-in-WriteFault c = ap (λ (kind : Kind). words_of (Some kind)) (sym c.in-WriteFault.is)
