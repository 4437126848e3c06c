-- The lines of a repository's text, read one by one.
use Rattle.std.proofs.Common.{arith, ◌≡◌, ℕ, ◌+◌, ◌<◌, ◌≤◌, List, [], ◌∷◌, ◌++◌, refl}
use Rattle.std.proofs.Common.{ap, sym, ◌∙◌, subst, length, map, Option, Some, None, inl, inr}
use Rattle.std.specs.Option.{is_some}
use Rattle.std.proofs.lemmas.List.{length-append, length-map}
use Rattle.git_server.specs.Repository.{Entry}
use Rattle.std.proofs.lemmas.List.Elements.{All-nil}
use Rattle.git_names.specs.declared.object_format.Format.{Format}
use Rattle.git_names.specs.declared.object_format.Format.TheVariants.{Sha1, Sha256}
use Rattle.git_msg.specs.ItemsInOrder.{IsBadAt, LacksMemory, StopsAt}
use Rattle.git_msg.specs.Memory.{HasRefused}
use Rattle.git_msg.proofs.ItemLaws.{as_many, items_more, stops_with_more}
use Rattle.git_server.specs.Lists.{Lists}
use Rattle.git_repository.specs.Packs.{PackBytes}
use Rattle.git_repository.specs.RepositoryLines.{LineContent, reference, unborn, object, ready, boundary}
use Rattle.git_repository.specs.RepositoryLines.{IsLineOf, HasNoContent, format_line, lines_of, longest_line}
use Rattle.git_repository.specs.RepositoryText.{AfterFormat, Begins, IsRepositoryText, MayCome, MayStand, StopsIn, TakesMemory, WantsMemory, list_bytes}
use Rattle.git_repository.specs.RepositoryText.{boundaries_in, counts_in, first_of, names_in, objects_in, refs_in, unborn_in}
use Rattle.git_repository.specs.LinesAnnounced.{AreAnnounced}
use Rattle.git_repository.specs.Machine.RepositoryProgress.{IsLinesFault, IsTooLong}
use Rattle.git_repository.specs.Machine.RepositoryFaults.{IsTextFault}
use Rattle.git_repository.specs.declared.text_faults.TextFault.{TextFault}
use Rattle.git_repository.specs.declared.text_faults.TextFault.TheVariants.{Bad, OutOfMemory as OutOfMemoryOfText}
use Rattle.git_repository.specs.Drafts.{Holds, IsLineFault, MayFollow, empty_lists, head_names, lines_behind, ready_lines, unborn_lines, with_packs}
use Rattle.git_repository.specs.Drafts.{with_content}
use Rattle.git_repository.specs.declared.text_faults.LineFault.TheVariants.{Refused, OutOfMemory}
use Rattle.git_repository.proofs.Drafting.{follows, holds_more, same_format, stands_more}
use Rattle.git_repository.proofs.LineContents.{fit_of_content, one_content}

nothing_stands : MayStand []
nothing_stands = record {
  rising_names = λ k d below. absurd (omega (arith, below));
  rising_objects = λ k d below. absurd (omega (arith, below));
  one_count = omega arith;
}

nothing_holds : (format : Format) → Holds [] (empty_lists format)
nothing_holds format = record {
  lists_are = refl;
  names_are = refl;
  may_stand = nothing_stands;
  named = All-nil _;
  of_format = record { by_refs = All-nil _; by_objects = All-nil _; by_boundaries = All-nil _ };
}

pub started : (format : Format) (line : List ℕ) (lists : Lists) → line ≡ format_line format → lists ≡ empty_lists format → AreAnnounced (line ∷ []) lists
started format line lists is empty =
    let there : AreAnnounced (line ∷ []) (empty_lists format) = record {
      content = [];
      begins = record { others = []; spelled = ap (λ (l : List ℕ). l ∷ []) is; others_are = tt };
      holds = nothing_holds format;
    } in
    subst (AreAnnounced (line ∷ [])) (sym empty) there

pub stepped : (lines : List (List ℕ)) (old new : Lists) (line : List ℕ) (conveys : LineContent) → AreAnnounced lines old → IsLineOf old.format line conveys
    → (new ≡ with_content old conveys) × MayFollow old conveys → AreAnnounced (lines ++ line ∷ []) new
stepped lines old new line conveys h is kept =
    let held = holds_more h.content old h.holds conveys (fit_of_content old.format line conveys is.1) kept.1 in
    let begins : Begins old.format (lines ++ line ∷ []) (h.content ++ conveys ∷ []) = record {
      others = h.begins.others ++ line ∷ [];
      spelled = ap (λ (ls : List (List ℕ)). ls ++ line ∷ []) h.begins.spelled;
      others_are = items_more (MayCome old.format) [] h.begins.others h.content line conveys h.begins.others_are (is, held.may_stand);
    } in
    subst (AreAnnounced (lines ++ line ∷ [])) (sym kept.0) (record {
      content = h.content ++ conveys ∷ [];
      begins = subst (λ (f : Format). Begins f (lines ++ line ∷ []) (h.content ++ conveys ∷ [])) (sym (same_format h.content old h.holds conveys)) begins;
      holds = held;
    })

length_of_contents : (content : List LineContent)
    → length content ≡ length (refs_in content) + length (objects_in content) + length (counts_in content) + length (boundaries_in content)
    + length (unborn_in content)
length_of_contents [] = refl
length_of_contents (reference entry ∷ more) = let h = length_of_contents more in omega (arith, h)
length_of_contents (unborn target ∷ more) = let h = length_of_contents more in omega (arith, h)
length_of_contents (object id size ∷ more) = let h = length_of_contents more in omega (arith, h)
length_of_contents (ready count ∷ more) = let h = length_of_contents more in omega (arith, h)
length_of_contents (boundary line ∷ more) = let h = length_of_contents more in omega (arith, h)

length_counts : (counts : List ℕ) → length counts ≤ 1 → length counts ≡ ready_lines (first_of counts)
length_counts [] h = refl
length_counts (count ∷ []) h = refl
length_counts (count ∷ other ∷ counts) h = absurd (omega (arith, h))

length_names : (content : List LineContent) → length (names_in content) ≡ length (unborn_in content) + length (refs_in content)
length_names [] = refl
length_names (reference entry ∷ more) = let h = length_names more in omega (arith, h)
length_names (unborn target ∷ more) = let h = length_names more in omega (arith, h)
length_names (object id size ∷ more) = length_names more
length_names (ready count ∷ more) = length_names more
length_names (boundary line ∷ more) = length_names more

length_head : (head : Option (List ℕ)) → length (head_names (is_some head)) ≡ unborn_lines head
length_head None = refl
length_head (Some target) = refl

stated_behind : (content : List LineContent) (lists : Lists) → Holds content lists → lines_behind lists ≡ length content + 1
stated_behind content lists h =
    let refs : List (List ℕ) = map (λ (entry : Entry). entry.name) lists.refs in
    omega (
      arith,
      length_of_contents content,
      length_counts (counts_in content) h.may_stand.one_count,
      length_names content,
      ap length h.names_are,
      length-append (head_names (is_some lists.unborn_head)) refs,
      length_head lists.unborn_head,
      length-map lists.refs (λ (entry : Entry). entry.name),
      ap (λ (l : Lists). length l.refs) h.lists_are,
      ap (λ (l : Lists). length l.objects) h.lists_are,
      ap (λ (l : Lists). length l.boundaries) h.lists_are,
      ap (λ (l : Lists). ready_lines l.ready_after) h.lists_are,
    )

-- lines that begin a text are as many as their contents, and the first
begun_lines : (format : Format) (lines : List (List ℕ)) (content : List LineContent) → Begins format lines content → length lines ≡ length content + 1
begun_lines format lines content h = omega (arith, ap length h.spelled, as_many (MayCome format) [] h.others content h.others_are)

-- the lists show how many lines contain them
announced_lines : (lines : List (List ℕ)) (lists : Lists) → AreAnnounced lines lists → lines_behind lists ≡ length lines
announced_lines lines lists h =
    omega (arith, begun_lines lists.format lines h.content h.begins, stated_behind h.content lists h.holds)

format_short : (format : Format) → length (format_line format) ≤ 13
format_short Sha1 = omega arith
format_short Sha256 = omega arith

-- a line that has become too long stays so as it goes on
pub too_long_on : (ended : List (List ℕ)) (line more : List ℕ) (fault : TextFault) → IsTooLong ended line fault → IsTooLong ended (line ++ more) fault
too_long_on ended line more fault h =
    record { may_go_on = h.may_go_on; long = omega (arith, h.long, length-append line more); at_number = h.at_number }

-- and so it is where it is the first line
pub too_long_at_first : (lines : List (List ℕ)) (line : List ℕ) → longest_line < length line → lines ≡ [] → IsTooLong lines line (Bad 1)
too_long_at_first lines line long none =
    record { may_go_on = inl none; long = long; at_number = ap (λ (ls : List (List ℕ)). Bad (length ls + 1)) (sym none) }

-- after lines that begin a text the number of a line that has become too long is the next one
pub too_long_behind : (lines : List (List ℕ)) (lists : Lists) (line : List ℕ) (number : ℕ) → number ≡ lines_behind lists + 1 → longest_line < length line
    → AreAnnounced lines lists → IsTooLong lines line (Bad number)
too_long_behind lines lists line number is long h = record {
  may_go_on = inr (lists.format, h.content, h.begins);
  long = long;
  at_number = ap Bad (is ∙ ap (λ (n : ℕ). n + 1) (announced_lines lines lists h));
}

pub whole_text : (text : List ℕ) (packs : PackBytes) (lists made : Lists) → AreAnnounced (lines_of text) lists → made ≡ with_packs lists packs
    → IsRepositoryText text packs made
whole_text text packs lists made h is = record {
  format = lists.format;
  content = h.content;
  begins = h.begins;
  lists_are = is ∙ ap (λ (l : Lists). with_packs l packs) h.holds.lists_are;
}

module _ (Why : Format → List LineContent → List ℕ → Type 0) where
  -- behind lines that begin a text it stops at a line
  stops_behind : (format : Format) (lines : List (List ℕ)) (line : List ℕ) (more : List (List ℕ)) (content : List LineContent) → Begins format lines content
      → Why format content line → AfterFormat (λ f. StopsAt (MayCome f) (Why f)) format (lines ++ line ∷ more)
  stops_behind format lines line more content begins why = record {
    others = begins.others ++ line ∷ more;
    spelled = ap (λ (ls : List (List ℕ)). ls ++ line ∷ more) begins.spelled;
    others_are =
        record { front = begins.others; at = line; back = more; items = content; whole = refl; taken = begins.others_are; why = why };
  }

  -- and it does so whatever comes after
  stops_with_others : (lines more : List (List ℕ)) → StopsIn Why lines → StopsIn Why (lines ++ more)
  stops_with_others lines more (format, h) = (
    format,
    record {
      others = h.others ++ more;
      spelled = ap (λ (ls : List (List ℕ)). ls ++ more) h.spelled;
      others_are = stops_with_more (MayCome format) (Why format) h.others more h.others_are;
    },
  )

module _ (refuses : ℕ → Type 0) where
  refused_at : (lines : List (List ℕ)) (lists : Lists) (line : List ℕ) (number : ℕ) → (h : AreAnnounced lines lists) → number ≡ lines_behind lists + 1
      → ((more : LineContent) → IsLineOf lists.format line more → MayStand (h.content ++ more ∷ []) → ⊥)
      → IsLinesFault refuses (lines ++ line ∷ []) (Bad number)
  refused_at lines lists line number h is refused =
      inr (
        lists.format,
        stops_behind (λ f. IsBadAt (MayCome f) 2 number) lists.format lines line [] h.content h.begins
            (record { at_number = omega (arith, is, stated_behind h.content lists h.holds); refused = λ more may. refused more may.0 may.1 }),
      )

  pub conveys_nothing_at : (lines : List (List ℕ)) (lists : Lists) (line : List ℕ) (number : ℕ) → number ≡ lines_behind lists + 1
      → HasNoContent lists.format line → AreAnnounced lines lists → IsLinesFault refuses (lines ++ line ∷ []) (Bad number)
  conveys_nothing_at lines lists line number is nothing h = refused_at lines lists line number h is (λ more is may. nothing more is.1)

  -- a line that is longer than a line may be
  pub too_long_at : (lines : List (List ℕ)) (lists : Lists) (line : List ℕ) (number : ℕ) → number ≡ lines_behind lists + 1
      → longest_line < length line → AreAnnounced lines lists → IsLinesFault refuses (lines ++ line ∷ []) (Bad number)
  too_long_at lines lists line number is long h = refused_at lines lists line number h is (λ more also may. absurd (omega (arith, long, also.0)))

  pub may_not_stand_at : (lines : List (List ℕ)) (lists : Lists) (line : List ℕ) (number : ℕ) (conveys : LineContent) → number ≡ lines_behind lists + 1
      → IsLineOf lists.format line conveys → IsLineFault refuses lists conveys Refused → AreAnnounced lines lists
      → IsLinesFault refuses (lines ++ line ∷ []) (Bad number)
  may_not_stand_at lines lists line number conveys at is fault h = refused_at lines lists line number h at
      (λ more also may. fault (follows h.content lists h.holds conveys
      (subst (λ (s : LineContent). MayStand (h.content ++ s ∷ [])) (one_content lists.format line more conveys also.1 is.1) may)))

  pub memory_ran_out_at : (lines : List (List ℕ)) (lists : Lists) (line : List ℕ) (conveys : LineContent)
      → IsLineOf lists.format line conveys → IsLineFault refuses lists conveys OutOfMemory → AreAnnounced lines lists → WantsMemory refuses (lines ++ line ∷ [])
  memory_ran_out_at lines lists line conveys is fault h = (
    lists.format,
    stops_behind (λ f. LacksMemory (MayCome f) TakesMemory (λ before. list_bytes (length before + 1)) refuses) lists.format lines line []
        h.content h.begins (record {
          item = conveys;
          may = (is, stands_more h.content lists h.holds conveys fault.0);
          takes_memory = fault.1;
          refused = subst (λ (n : ℕ). HasRefused refuses (list_bytes n conveys)) (stated_behind h.content lists h.holds) fault.2;
        }),
  )

  -- a line that has become too long is refused, whatever comes after it
  pub too_long_fault : (ended : List (List ℕ)) (line : List ℕ) (more : List (List ℕ)) (fault : TextFault) → IsTooLong ended line fault
      → IsLinesFault refuses (ended ++ line ∷ more) fault
  too_long_fault ended line more fault h =
      subst (IsLinesFault refuses (ended ++ line ∷ more)) (sym h.at_number) (elim h.may_go_on [
        | inl none ↦ inl (record {
          at_first = ap (λ (ls : List (List ℕ)). length ls + 1) none;
          first = line;
          others = more;
          whole = ap (λ (ls : List (List ℕ)). ls ++ line ∷ more) none;
          no_format = λ format e. let short = format_short format in omega (arith, h.long, short, ap length e);
        })
        | inr (format, content, begins) ↦
            inr (
              format,
              stops_behind (λ f. IsBadAt (MayCome f) 2 (length ended + 1)) format ended line more content begins (record {
                at_number = omega (arith, begun_lines format ended content begins);
                refused = λ next may. absurd (omega (arith, h.long, may.0.0));
              }),
            )
      ])

  -- a fault stays the first with the lines after it
  pub fault_stays : (lines more : List (List ℕ)) (fault : TextFault) → IsLinesFault refuses lines fault → IsLinesFault refuses (lines ++ more) fault
  fault_stays lines more (Bad number) (inl h) = inl (record {
    at_first = h.at_first;
    first = h.first;
    others = h.others ++ more;
    whole = ap (λ (ls : List (List ℕ)). ls ++ more) h.whole;
    no_format = h.no_format;
  })
  fault_stays lines more (Bad number) (inr h) = inr (stops_with_others (λ f. IsBadAt (MayCome f) 2 number) lines more h)
  fault_stays lines more OutOfMemoryOfText h =
      stops_with_others (λ f. LacksMemory (MayCome f) TakesMemory (λ before. list_bytes (length before + 1)) refuses) lines more h

  pub text_fault : (text : List ℕ) (fault : TextFault) → IsLinesFault refuses (lines_of text) fault → IsTextFault refuses text fault
  text_fault text (Bad number) h = h
  text_fault text OutOfMemoryOfText h = h
