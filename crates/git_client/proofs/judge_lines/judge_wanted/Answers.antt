use Rattle.std.proofs.Common.{arith, ◌≡◌, ℕ, ◌+◌, List, ◌∷◌, length, drop, sym, ap, ◌∙◌, subst, length-append}
use Rattle.std.proofs.Math.Seq.{drop-append-add}
use Rattle.git_names.specs.ObjectFormat.{digits_of}
use Rattle.git_names.specs.declared.object_format.Format.{Format}
use Rattle.git_msg.specs.ResponseLines.{Wanted, IsWantedLine, wanted_of}
use Rattle.git_client.specs.Places.{wanted_refs}
use Rattle.git_client.specs.Machine.Turns.{HasContent}
use Rattle.git_client.specs.declared.phase.LineContent.TheVariants.{WantedRef}
use Rattle.git_client.proofs.judge_lines.judge_wanted.Goals as goal

-- the name comes after the object's digits and a space
located : (format : Format) (text : List ℕ) (wanted : Wanted) → IsWantedLine format text wanted → HasContent wanted_refs format text (WantedRef wanted.id)
located format text wanted line =
    let digits : length line.id ≡ digits_of wanted.id.format = line.id_is.count ∙ ap digits_of (sym line.id_is.of_format) in
    let name : drop (digits_of wanted.id.format + 1) text ≡ wanted.name =
    ap (λ (n : ℕ). drop (n + 1) text) (sym digits) ∙ ap (λ (l : List ℕ). drop (length line.id + 1) l) line.spelled
    ∙ drop-append-add line.id (32 ∷ wanted.name) 1 in
    record {
      conveys = subst (λ (l : List ℕ). IsWantedLine format text (wanted_of wanted.id l)) (sym name) line;
      fits = omega (arith, ap length line.spelled ∙ length-append line.id (32 ∷ wanted.name));
    }

pub returns-in-Ok-clause-line : goal.returns-in-Ok-clause-line
returns-in-Ok-clause-line c = located c.args.format c.args.line.now _ c.in-Ok.ensures.line
