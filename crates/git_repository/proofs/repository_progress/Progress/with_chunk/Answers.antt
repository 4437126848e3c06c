use Rattle.std.proofs.Common.{List, ℕ, arith, ◌≡◌, ◌<◌, ◌∷◌, ◌++◌, [], sym, subst, ◌∙◌, ap, length, length-append}
use Rattle.std.specs.Option.{option_copied}
use Rattle.git_msg.specs.Texts.{parts_left, parts_of}
use Rattle.git_repository.specs.RepositoryLines.{longest_line}
use Rattle.git_repository.proofs.Progressing.{empty_of, long_stands, chunk_alone, chunk_behind, chunk_within}
use Rattle.git_repository.proofs.TextChunks.{parts_joined}
use Rattle.git_repository.specs.Machine.RepositoryProgress.{HasRead, Stands}
use Rattle.git_repository.proofs.repository_progress.Progress.with_chunk.Goals as goal

pub append-requires : goal.append-requires
append-requires g c =
    let short = c.with_text-progress.ensures.within in
    let space = c.requires.space in
    omega (arith, short, space)

pub returns-then-is_empty-clause-reads : goal.returns-then-is_empty-clause-reads
returns-then-is_empty-clause-reads g c text lines parts h =
    let none : c.args.begun.now.items ≡ [] = sym c.as_slice.ensures.value ∙ empty_of c.as_slice.result.now c.if-is_empty.ensures in
    let held : c.with_text-progress.result.1.now ≡ c.append.new.begun.items =
    sym (c.append.ensures.items ∙ ap (λ (xs : List ℕ). xs ++ c.with_text-progress.result.1.now) none) in
    subst (λ (xs : List ℕ). Stands g.M.RepoMemory.refuses c.with_text-progress.result.0 xs (parts_of 10 (text ++ c.args.chunk.now))) held
    (chunk_behind g.M.RepoMemory.refuses c.with_text-progress.result.0 c.with_text-progress.result.1.now text c.args.chunk.now lines
    (parts ∙ ap (λ (l : List ℕ). lines ++ l ∷ []) none) (c.with_text-progress.ensures.reads lines h))

pub returns-then-line-len-clause-reads : goal.returns-then-line-len-clause-reads
returns-then-line-len-clause-reads g c text lines parts h =
    let begun = c.args.begun.now.items in
    let line = c.split_at_first.result.0.now in
    let others = parts_left 10 (option_copied c.split_at_first.result.1) in
    let long : longest_line < length (begun ++ line) = omega (arith, c.if-line-len.true, length-append begun line, c.requires.short) in
    long_stands g.M.RepoMemory.refuses c.with_long_line.result _ lines (begun ++ line) others (parts_of 10 (text ++ c.args.chunk.now))
    c.with_long_line.ensures.failed
    (c.with_long_line.ensures.reads lines (begun ++ line) long h)
    (parts_joined text c.args.chunk.now lines begun line others parts c.split_at_first.ensures.parts)

pub returns-in_default-clause-reads : goal.returns-in_default-clause-reads
returns-in_default-clause-reads g c text lines parts h =
    chunk_alone g.M.RepoMemory.refuses c.args.self c.append-2.new.begun.items text c.args.chunk.now c.split_at_first.result.0.now lines
    c.args.begun.now.items parts (rw c.in_default.is at c.split_at_first.ensures.parts) c.append-2.ensures.items h

pub append-requires-3 : goal.append-requires-3
append-requires-3 g c =
    let none = ap length c.clear.ensures.items in
    let short = c.with_text-progress-2.ensures.within in
    let less = rw c.in-Some.is at c.split_at_first.ensures.shorter in
    let space = c.requires.space in
    let grown = c.append-2.ensures.capacity in
    let kept = c.clear.ensures.capacity in
    omega (arith, none, short, less, space, grown, kept)

pub returns-clause-reads : goal.returns-clause-reads
returns-clause-reads g c text lines parts h =
    let line : c.deref.result.now ≡ c.args.begun.now.items ++ c.split_at_first.result.0.now = c.deref.ensures.value ∙ c.append-2.ensures.items in
    let held : c.with_text-progress-2.result.1.now ≡ c.append-3.new.begun.items =
    sym (c.append-3.ensures.items ∙ ap (λ (xs : List ℕ). xs ++ c.with_text-progress-2.result.1.now) c.clear.ensures.items) in
    let read : HasRead g.M.RepoMemory.refuses c.with_line-progress.result (lines ++ (c.args.begun.now.items ++ c.split_at_first.result.0.now) ∷ []) =
    subst (λ (l : List ℕ). HasRead g.M.RepoMemory.refuses c.with_line-progress.result (lines ++ l ∷ [])) line (c.with_line-progress.ensures lines h) in
    subst (λ (xs : List ℕ). Stands g.M.RepoMemory.refuses c.with_text-progress-2.result.0 xs (parts_of 10 (text ++ c.args.chunk.now))) held
    (chunk_within g.M.RepoMemory.refuses c.with_text-progress-2.result.0 c.with_text-progress-2.result.1.now text c.args.chunk.now
    c.split_at_first.result.0.now c.in-Some.rest.now lines c.args.begun.now.items parts (rw c.in-Some.is at c.split_at_first.ensures.parts)
    (c.with_text-progress-2.ensures.reads (lines ++ (c.args.begun.now.items ++ c.split_at_first.result.0.now) ∷ []) read))
