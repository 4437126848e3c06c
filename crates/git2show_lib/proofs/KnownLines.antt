-- Where nothing was advertised that is not known, each packet of a request is read as it is, and nothing passes.
use Rattle.std.proofs.Common.{◌≡◌, ◌⊎◌, ◌==◌, ◌&&◌, not, Bool, true, false, ℕ, List, []}
use Rattle.std.proofs.Common.{◌∷◌, Option, Some, None, codes, map, refl, ap, ◌∙◌, inl, inr, append-nil}
use Rattle.std.specs.List.{before_first}
use Rattle.std.specs.Str.{bytes_eq}
use Rattle.git_pkt.specs.Packets.{Pkt, flush, delim, resp_end, payload, text_of}
use Rattle.git_pkt.specs.Splits.{Given}
use Rattle.git_msg.specs.Advertisement.{key_of, value_of}
use Rattle.git_msg.specs.declared.arguments.Command.{Command}
use Rattle.git_msg.specs.declared.arguments.Command.TheVariants.{LsRefs, Fetch, ObjectInfo}
use Rattle.git_msg.specs.Asked.{Asked}
use Rattle.git_msg.specs.declared.offers.Offer.{Offer}
use Rattle.git2show_lib.specs.Others.{IsOtherRequest, is_advertised, is_allowed_key, is_allowed_value}
use Rattle.git2show_lib.specs.Others.{is_other_argument, is_other_capability, is_other_command, is_own_key, is_own_word}
use Rattle.git2show_lib.specs.Others.{first_place, line_has, names_other, place_after, place_next}
use Rattle.git2show_lib.specs.OtherLines.{Noted, Question, known, other, asks_line, is_fetch, nothing_noted, noted_from, noted_with}
use Rattle.git2show_lib.specs.OtherLines.{shown_line}
use Rattle.git2show_lib.specs.Machine.JudgedRequests.{AreQuestions}
use Rattle.git2show_lib.specs.declared.other_lines.Asks.{Asks}
use Rattle.git2show_lib.specs.declared.others.Place.{Place}
use Rattle.git2show_lib.specs.declared.others.Place.TheVariants.{Unnamed, Named, Arguments}

no_word : (command : Command) (word : List ℕ) → is_advertised [] (Some command) word ≡ false
unfolding is_advertised line_has
no_word LsRefs word = refl
no_word Fetch word = refl
no_word ObjectInfo word = refl

and_false : (b : Bool) → (b && false) ≡ false
and_false true = refl
and_false false = refl

no_argument : (command : Option Command) (line : List ℕ) → is_other_argument [] command line ≡ false
unfolding is_other_argument
no_argument None line = refl
no_argument (Some command) line = rw (no_word command (before_first (λ c. c == 32) line)) (and_false (not (is_own_word (before_first (λ c. c == 32) line))))

-- the only key of a line without bytes is none
no_key : (key : List ℕ) → (is_own_key key ≡ true) ⊎ (is_advertised [] None key ≡ false)
unfolding is_own_key is_advertised line_has
no_key [] = inl refl
no_key (c ∷ key) = inr refl

not_all : (a b c d : Bool) → (c ≡ true) ⊎ (d ≡ false) → (a && b && not c && d) ≡ false
not_all false b c d h = refl
not_all true false c d h = refl
not_all true true true d h = refl
not_all true true false false h = refl
not_all true true false true (inl e) = cc
not_all true true false true (inr e) = cc

no_capability : (line : List ℕ) → is_other_capability [] line ≡ false
unfolding is_other_capability
no_capability line =
    not_all (is_allowed_key (key_of line)) (is_allowed_value (value_of line)) (is_own_key (key_of line)) (is_advertised [] None (key_of line))
    (no_key (key_of line))

-- ---- and no request is for another command, so that nothing passes

names_nothing : (place : Place) (p : Pkt) → names_other [] place p ≡ false
unfolding is_other_command
names_nothing (Named command) p = refl
names_nothing (Arguments command) p = refl
names_nothing Unnamed flush = refl
names_nothing Unnamed delim = refl
names_nothing Unnamed resp_end = refl
names_nothing Unnamed (payload bytes) =
    not_named (bytes_eq (key_of (text_of bytes)) (codes "command")) (is_own_key (value_of (text_of bytes)))
    (is_advertised [] None (value_of (text_of bytes))) (no_key (value_of (text_of bytes)))
  where
    not_named : (a b c : Bool) → (b ≡ true) ⊎ (c ≡ false) → (a && not b && c) ≡ false
    not_named false b c h = refl
    not_named true true c h = refl
    not_named true false false h = refl
    not_named true false true (inl e) = cc
    not_named true false true (inr e) = cc

no_other : (offer : Offer) (limit : ℕ) (packets : List Given) → IsOtherRequest (record { offer = offer; text = [] }) limit packets → ⊥
no_other offer limit packets request =
    let begins = request.begins in
    let named : names_other [] (place_after first_place begins.front) begins.named.packet ≡ true = begins.names in
    absurd (cc (names_nothing (place_after first_place begins.front) begins.named.packet))

-- ---- and nothing is noted

no_line : (place : Place) (line : List ℕ) → shown_line [] place line ≡ []
unfolding shown_line
no_line Unnamed line = rw (no_capability line) refl
no_line (Named command) line = rw (no_capability line) refl
no_line (Arguments command) line = rw (no_argument command line) refl

asks_no_more : (place : Place) (asks : Asks) (line : List ℕ) → asks_line [] place asks line ≡ asks
unfolding asks_line
asks_no_more Unnamed asks line = refl
asks_no_more (Named command) asks line = refl
asks_no_more (Arguments command) asks line = rw (no_argument command line, and_false (is_fetch command)) refl

nothing_more : (place : Place) (noted : Noted) (packet : Pkt) → noted_with [] place noted packet ≡ noted
nothing_more place noted flush = ap (λ (l : List ℕ). record { lines = l; asks = noted.asks }) (append-nil noted.lines)
nothing_more place noted delim = ap (λ (l : List ℕ). record { lines = l; asks = noted.asks }) (append-nil noted.lines)
nothing_more place noted resp_end = ap (λ (l : List ℕ). record { lines = l; asks = noted.asks }) (append-nil noted.lines)
nothing_more place noted (payload bytes) =
    rw (no_line place (text_of bytes), asks_no_more place noted.asks (text_of bytes), append-nil noted.lines) refl

none_noted : (place : Place) (noted : Noted) (gs : List Given) → noted_from [] place noted gs ≡ noted
none_noted place noted [] = refl
none_noted place noted (g ∷ gs) =
    ap (λ (n : Noted). noted_from [] (place_next place g.packet) n gs) (nothing_more place noted g.packet)
    ∙ none_noted (place_next place g.packet) noted gs

-- a request that has nothing which is not known
abbrev pub plain : Asked → Question
plain q = known q nothing_noted

-- the requests ask for this, each by a command that is known, and have nothing else
pub all_asked : (offer : Offer) (limit : ℕ) (packets : List Given) (asked : List Question) (left : List Given)
    → AreQuestions (record { offer = offer; text = [] }) limit packets asked left → (qs : List Asked) × (asked ≡ map plain qs)
all_asked offer limit packets [] left same = ([], refl)
all_asked offer limit packets (other lines ∷ qs) left (front, more, whole, (is, named), rest) = absurd (no_other offer limit front is)
all_asked offer limit packets (known q noted ∷ qs) left (front, more, whole, (one, kept, noted_is), rest) =
    let (others, same) = all_asked offer limit more qs left rest in (
      q ∷ others,
      ap (λ (n : Noted). known q n ∷ qs) (noted_is ∙ none_noted first_place nothing_noted front) ∙ ap (λ (l : List Question). plain q ∷ l) same,
    )
