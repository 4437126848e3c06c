-- How far the lines of a text are read, and what a further chunk changes.
use Rattle.std.proofs.Common.{true, false, ◌==◌, ◌≢◌, ◌<◌, ◌≤◌, ◌⊎◌, Bor, Option, Some, None, ◌≡◌, ℕ, List, [], ◌∷◌, ◌++◌}
use Rattle.std.proofs.Common.{refl, ap, sym, ◌∙◌, subst, append_assoc, length, length-append, arith, inl, inr}
use Rattle.std.proofs.lemmas.List.{append-nil}
use Rattle.std.proofs.lemmas.Bool.Decides.{nat_tests}
use Rattle.git_pkt.specs.Packets.{text_of}
use Rattle.std.specs.Prelude.{MatchOption}
use Rattle.std.specs.Option.{option_copied}
use Rattle.git_msg.proofs.TextParts.{bytes_left}
use Rattle.git_msg.specs.Texts.{IsCutAt, parts_left, parts_of}
use Rattle.git_server.specs.Lists.{Lists}
use Rattle.git_repository.specs.RepositoryLines.{lines_of}
use Rattle.git_repository.specs.declared.text_faults.TextFault.{TextFault}
use Rattle.git_repository.specs.declared.drafts.Draft.{Draft}
use Rattle.git_repository.specs.Machine.DraftLists.{drafted}
use Rattle.git_repository.specs.LinesAnnounced.{AreAnnounced}
use Rattle.git_repository.specs.Machine.RepositoryProgress.{HasFailed, HasRead, HasReadTo, IsBegun, IsLinesFault, IsTooLong, Stands}
use Rattle.git_repository.specs.declared.repository_progress.Progress.{Progress}
use Rattle.git_repository.specs.declared.repository_progress.Progress.TheVariants.{Start, Lines, Failed}
use Rattle.git_repository.proofs.Reading.{fault_stays, too_long_fault, too_long_on}
use Rattle.git_repository.proofs.TextChunks.{by_line, by_line_end, first_part, last_among, none_at_all, parts_behind, parts_joined, text_ends}

begun_self : (progress : Progress) (line : List ℕ) → IsBegun progress line line
begun_self Start line = refl
begun_self (Lines draft) line = refl
begun_self (Failed fault) line = tt

-- while no line was refused, what is held is the line that has begun
begun_of : (progress : Progress) (held begun : List ℕ) → (HasFailed progress → ⊥) → IsBegun progress held begun → held ≡ begun
begun_of Start held begun f h = h
begun_of (Lines draft) held begun f h = h
begun_of (Failed fault) held begun f h = absurd (f tt)

pub some_lines : (text : List ℕ) → lines_of text ≡ [] → ⊥
some_lines text e = let some = first_part (text_of text) in none_at_all some.first some.others (sym some.is ∙ e)

-- further lines of a text were read, and after them come this line and what is left
pub record ReadsOn (text : List ℕ) (lines : List (List ℕ)) (line : List ℕ) (rest : Option (List ℕ)) (lists : Lists) : Type 0 where
  pub more : List (List ℕ)
  pub whole : parts_of 10 text ≡ more ++ line ∷ parts_left 10 rest
  pub announced : AreAnnounced (lines ++ more) lists

pub at_first : (text : List ℕ) (lines : List (List ℕ)) (line : List ℕ) (rest : Option (List ℕ)) (lists : Lists)
    → parts_of 10 text ≡ line ∷ parts_left 10 rest → AreAnnounced lines lists → ReadsOn text lines line rest lists
at_first text lines line rest lists cut h =
    record { more = []; whole = cut; announced = subst (λ (ls : List (List ℕ)). AreAnnounced ls lists) (sym (append-nil lines)) h }

pub reads_line : (text : List ℕ) (lines : List (List ℕ)) (line left next : List ℕ) (rest : Option (List ℕ)) (old new : Lists)
    → ReadsOn text lines line (Some left) old → parts_of 10 left ≡ next ∷ parts_left 10 rest
    → ((ls : List (List ℕ)) → AreAnnounced ls old → AreAnnounced (ls ++ line ∷ []) new) → ReadsOn text lines next rest new
reads_line text lines line left next rest old new h cut step = record {
  more = h.more ++ line ∷ [];
  whole = h.whole ∙ ap (λ (ls : List (List ℕ)). h.more ++ line ∷ ls) cut ∙ sym (append_assoc h.more (line ∷ []) (next ∷ parts_left 10 rest));
  announced = subst (λ (ls : List (List ℕ)). AreAnnounced ls new) (append_assoc lines h.more (line ∷ [])) (step (lines ++ h.more) h.announced);
}

pub cut_within : (text before : List ℕ) (rest : Option (List ℕ)) → IsCutAt 10 text before rest → length before ≤ length text
cut_within text before None h = let same = ap length h.0 in omega (arith, same)
cut_within text before (Some after) h = let long = ap length h.spelled ∙ length-append before (10 ∷ after) in omega (arith, long)

pub rest_within : (text : List ℕ) (rest : Option (Bor (List ℕ))) → MatchOption rest (Unit {0}) (λ r. length r.now < length text)
    → bytes_left (option_copied rest) ≤ length text
rest_within text None h = omega arith
rest_within text (Some r) h = omega (arith, h)

nothing : (xs : List ℕ) → length xs ≡ 0 → xs ≡ []
nothing [] e = refl
nothing (x ∷ xs) e = absurd (omega (arith, e))

pub empty_of : (xs : List ℕ) → true ≡ (length xs == 0) → xs ≡ []
empty_of [] e = refl
empty_of (x ∷ xs) e = let zero : length (x ∷ xs) ≡ 0 = grind (arith, nat_tests) in absurd (omega (arith, zero))

pub some_of : (xs : List ℕ) → false ≡ (length xs == 0) → xs ≡ [] → ⊥
some_of [] e same = let no : length {A = ℕ} [] ≢ 0 = grind (arith, nat_tests) in no refl
some_of (x ∷ xs) e same = let long : length (x ∷ xs) ≡ length {A = ℕ} [] = ap length same in omega (arith, long)

module _ (refuses : ℕ → Type 0) where
  read_to : (progress : Progress) (lines : List (List ℕ)) (begun : List ℕ) → HasRead refuses progress lines → HasReadTo refuses progress lines begun
  read_to Start lines begun h = h
  read_to (Lines draft) lines begun h = h
  read_to (Failed fault) lines begun h = inl h

  -- these lines were read, and this one has begun
  pub begun_behind : (progress : Progress) (held : List ℕ) (lines all : List (List ℕ)) → HasRead refuses progress lines → all ≡ lines ++ held ∷ []
      → Stands refuses progress held all
  begun_behind progress held lines all h is = record {
    ended = lines;
    begun = held;
    whole = is;
    read = read_to progress lines held h;
    is_begun = begun_self progress held;
  }

  -- a line was read, and the rest is after it
  pub stand_behind : (progress : Progress) (held : List ℕ) (lines : List (List ℕ)) (line text rest : List ℕ) → parts_of 10 text ≡ line ∷ parts_of 10 rest
      → Stands refuses progress held ((lines ++ line ∷ []) ++ parts_of 10 rest) → Stands refuses progress held (lines ++ parts_of 10 text)
  stand_behind progress held lines line text rest parts h =
      subst (Stands refuses progress held) (append_assoc lines (line ∷ []) (parts_of 10 rest) ∙ ap (λ (ls : List (List ℕ)). lines ++ ls) (sym parts)) h

  -- after a fault all else is passed over
  failed_behind : (fault : TextFault) (held : List ℕ) (lines : List (List ℕ)) (first : List ℕ) (others all : List (List ℕ)) → IsLinesFault refuses lines fault
      → all ≡ lines ++ first ∷ others → Stands refuses (Failed fault) held all
  failed_behind fault held lines first others all h is =
      let last = last_among first others in
      record {
        ended = lines ++ last.front;
        begun = last.last;
        whole = is ∙ ap (λ (ls : List (List ℕ)). lines ++ ls) last.is ∙ sym (append_assoc lines last.front (last.last ∷ []));
        read = inl (fault_stays refuses lines last.front fault h);
        is_begun = tt;
      }

  -- a line that has become too long is the fault, whether it has ended or not
  pub long_behind : (fault : TextFault) (held : List ℕ) (lines : List (List ℕ)) (first : List ℕ) (others all : List (List ℕ)) → IsTooLong lines first fault
      → all ≡ lines ++ first ∷ others → Stands refuses (Failed fault) held all
  long_behind fault held lines first [] all h is = record { ended = lines; begun = first; whole = is; read = inr h; is_begun = tt }
  long_behind fault held lines first (next ∷ others) all h is =
      failed_behind fault held (lines ++ first ∷ []) next others all (too_long_fault refuses lines first [] fault h)
      (is ∙ sym (append_assoc lines (first ∷ []) (next ∷ others)))

  pub failed_text : (fault : TextFault) (held : List ℕ) (lines : List (List ℕ)) (text : List ℕ) → IsLinesFault refuses lines fault
      → Stands refuses (Failed fault) held (lines ++ parts_of 10 text)
  failed_text fault held lines text h =
      let some = first_part text in
      failed_behind fault held lines some.first some.others (lines ++ parts_of 10 text) h (ap (λ (ls : List (List ℕ)). lines ++ ls) some.is)

  pub failed_stays : (progress : Progress) (held text chunk : List ℕ) → HasFailed progress → Stands refuses progress held (parts_of 10 text)
      → Stands refuses progress held (parts_of 10 (text ++ chunk))
  failed_stays Start held text chunk f h = absurd f
  failed_stays (Lines draft) held text chunk f h = absurd f
  failed_stays (Failed fault) held text chunk f h =
      let some = first_part chunk in
      let joined = parts_joined text chunk h.ended h.begun some.first some.others h.whole some.is in
      let read : IsLinesFault refuses h.ended fault ⊎ IsTooLong h.ended h.begun fault = h.read in
      elim read [
        | inl shown ↦ failed_behind fault held h.ended (h.begun ++ some.first) some.others (parts_of 10 (text ++ chunk)) shown joined
        | inr long ↦ long_behind fault held h.ended (h.begun ++ some.first) some.others (parts_of 10 (text ++ chunk))
            (too_long_on h.ended h.begun some.first fault long) joined
      ]

  pub held_of : (progress : Progress) (held : List ℕ) (lines : List (List ℕ)) → (HasFailed progress → ⊥) → (h : Stands refuses progress held lines)
      → lines ≡ h.ended ++ held ∷ []
  held_of progress held lines f h = h.whole ∙ ap (λ (l : List ℕ). h.ended ++ l ∷ []) (sym (begun_of progress held h.begun f h.is_begun))

  -- a chunk at the start of a line
  pub chunk_behind : (progress : Progress) (held text chunk : List ℕ) (lines : List (List ℕ)) → parts_of 10 text ≡ lines ++ [] ∷ []
      → Stands refuses progress held (lines ++ parts_of 10 chunk) → Stands refuses progress held (parts_of 10 (text ++ chunk))
  chunk_behind progress held text chunk lines parts h = subst (Stands refuses progress held) (sym (parts_behind text chunk lines parts)) h

  -- a chunk in the line that has begun
  pub chunk_within : (progress : Progress) (held text chunk line rest : List ℕ) (lines : List (List ℕ)) (begun : List ℕ)
      → parts_of 10 text ≡ lines ++ begun ∷ [] → parts_of 10 chunk ≡ line ∷ parts_of 10 rest
      → Stands refuses progress held ((lines ++ (begun ++ line) ∷ []) ++ parts_of 10 rest)
      → Stands refuses progress held (parts_of 10 (text ++ chunk))
  chunk_within progress held text chunk line rest lines begun parts cut h =
      subst (Stands refuses progress held) (append_assoc lines ((begun ++ line) ∷ []) (parts_of 10 rest)
      ∙ sym (parts_joined text chunk lines begun line (parts_of 10 rest) parts cut)) h

  -- the end of a text without a whole line
  pub end_at_start : (text held : List ℕ) → Stands refuses Start held (parts_of 10 text) → held ∷ [] ≡ lines_of text
  end_at_start text held h =
      let none : h.ended ≡ [] = h.read in
      let line : held ≡ h.begun = h.is_begun in
      elim (text_ends text h.ended h.begun h.whole) [
        | by_line is first ↦ sym (is ∙ ap (λ (ls : List (List ℕ)). ls ++ h.begun ∷ []) none ∙ ap (λ (l : List ℕ). l ∷ []) (sym line))
        | by_line_end is empty ↦ absurd (some_lines text (is ∙ none))
      ]

  -- the end of a text after a line end
  pub end_behind : (draft : Draft) (text held : List ℕ) → held ≡ [] → Stands refuses (Lines draft) held (parts_of 10 text)
      → AreAnnounced (lines_of text) (drafted draft)
  end_behind draft text held empty h =
      let line : held ≡ h.begun = h.is_begun in
      let read : AreAnnounced h.ended (drafted draft) = h.read in
      elim (text_ends text h.ended h.begun h.whole) [
        | by_line is first ↦
            absurd (none_at_all _ _ (sym read.begins.spelled ∙ first (sym line ∙ empty)))
        | by_line_end is none ↦ subst (λ (ls : List (List ℕ)). AreAnnounced ls (drafted draft)) (sym is) read
      ]

  -- the end of a text in a line
  pub end_within : (draft : Draft) (text held : List ℕ) → (held ≡ [] → ⊥) → (h : Stands refuses (Lines draft) held (parts_of 10 text))
      → h.ended ++ held ∷ [] ≡ lines_of text
  end_within draft text held some h =
      let line : held ≡ h.begun = h.is_begun in
      elim (text_ends text h.ended h.begun h.whole) [
        | by_line is first ↦ ap (λ (l : List ℕ). h.ended ++ l ∷ []) line ∙ sym is
        | by_line_end is none ↦ absurd (some (line ∙ none))
      ]

  begun_fault : (fault : TextFault) (ended : List (List ℕ)) (begun : List ℕ) → IsLinesFault refuses ended fault ⊎ IsTooLong ended begun fault
      → IsLinesFault refuses (ended ++ begun ∷ []) fault
  begun_fault fault ended begun (inl shown) = fault_stays refuses ended (begun ∷ []) fault shown
  begun_fault fault ended begun (inr long) = too_long_fault refuses ended begun [] fault long

  ended_fault : (fault : TextFault) (ended : List (List ℕ)) (begun : List ℕ) → begun ≡ [] → IsLinesFault refuses ended fault ⊎ IsTooLong ended begun fault
      → IsLinesFault refuses ended fault
  ended_fault fault ended begun none (inl shown) = shown
  ended_fault fault ended begun none (inr long) = absurd (omega (arith, long.long, ap length none))

  -- the end of a text after a fault
  pub end_failed : (fault : TextFault) (text held : List ℕ) → Stands refuses (Failed fault) held (parts_of 10 text) → IsLinesFault refuses (lines_of text) fault
  end_failed fault text held h =
      let read : IsLinesFault refuses h.ended fault ⊎ IsTooLong h.ended h.begun fault = h.read in
      elim (text_ends text h.ended h.begun h.whole) [
        | by_line is first ↦ subst (λ (ls : List (List ℕ)). IsLinesFault refuses ls fault) (sym is) (begun_fault fault h.ended h.begun read)
        | by_line_end is none ↦ subst (λ (ls : List (List ℕ)). IsLinesFault refuses ls fault) (sym is) (ended_fault fault h.ended h.begun none read)
      ]

  pub reads_bad_line : (text : List ℕ) (lines : List (List ℕ)) (line held : List ℕ) (left : List ℕ) (old : Lists) (fault : TextFault)
      → ReadsOn text lines line (Some left) old → ((ls : List (List ℕ)) → AreAnnounced ls old → IsLinesFault refuses (ls ++ line ∷ []) fault)
      → Stands refuses (Failed fault) held (lines ++ parts_of 10 text)
  reads_bad_line text lines line held left old fault h step =
      subst (Stands refuses (Failed fault) held) (append_assoc (lines ++ h.more) (line ∷ []) (parts_of 10 left)
      ∙ append_assoc lines h.more (line ∷ parts_of 10 left) ∙ ap (λ (ls : List (List ℕ)). lines ++ ls) (sym h.whole))
      (failed_text fault held ((lines ++ h.more) ++ line ∷ []) left (step (lines ++ h.more) h.announced))

  pub reads_all : (text : List ℕ) (lines : List (List ℕ)) (line held : List ℕ) (draft : Draft) → ReadsOn text lines line None (drafted draft)
      → (progress : Progress) → ((ls : List (List ℕ)) → HasRead refuses (Lines draft) ls → Stands refuses progress held (ls ++ line ∷ []))
      → Stands refuses progress held (lines ++ parts_of 10 text)
  reads_all text lines line held draft h progress stands =
      subst (Stands refuses progress held) (append_assoc lines h.more (line ∷ []) ∙ ap (λ (ls : List (List ℕ)). lines ++ ls) (sym h.whole))
      (stands (lines ++ h.more) h.announced)

  -- a chunk that ends no line
  pub chunk_alone : (progress : Progress) (held text chunk line : List ℕ) (lines : List (List ℕ)) (begun : List ℕ) → parts_of 10 text ≡ lines ++ begun ∷ []
      → parts_of 10 chunk ≡ line ∷ [] → held ≡ begun ++ line → HasRead refuses progress lines → Stands refuses progress held (parts_of 10 (text ++ chunk))
  chunk_alone progress held text chunk line lines begun parts cut is h =
      begun_behind progress held lines (parts_of 10 (text ++ chunk)) h
      (parts_joined text chunk lines begun line [] parts cut ∙ ap (λ (l : List ℕ). lines ++ l ∷ []) (sym is))

  -- a text that has failed at the line that has begun, or before it, stands there
  pub long_stands : (progress : Progress) (held : List ℕ) (lines : List (List ℕ)) (first : List ℕ) (others all : List (List ℕ)) → HasFailed progress
      → HasReadTo refuses progress lines first → all ≡ lines ++ first ∷ others → Stands refuses progress held all
  long_stands Start held lines first others all f h is = absurd f
  long_stands (Lines draft) held lines first others all f h is = absurd f
  long_stands (Failed fault) held lines first others all f h is =
      let read : IsLinesFault refuses lines fault ⊎ IsTooLong lines first fault = h in
      elim read [
        | inl shown ↦ failed_behind fault held lines first others all shown is
        | inr long ↦ long_behind fault held lines first others all long is
      ]
