use Rattle.std.proofs.Common.{arith, ◌≡◌, true, List, [], ◌∷◌, ◌++◌, codes, refl, sym, ap, ◌∙◌}
use Rattle.git_names.specs.Digits.{lower_digit}
use Rattle.git_pkt.specs.Escape.{escape_of}
use Rattle.git_pkt.specs.Packets.{delim, flush, payload}
use Rattle.git_pkt.specs.Splits.{Given}
use Rattle.git_pkt.proofs.Spelling.{none_begins_nothing}
use Rattle.git_pkt.proofs.Streams.{one_split}
use Rattle.git2show_lib.specs.Others.{NoneIs, counted_line, is_advertised, is_allowed_key, is_allowed_value, is_other_capability, is_other_command}
use Rattle.git2show_lib.specs.Others.{first_place, is_own_key, judged_line, line_has, names_other, place_after, place_at_line, place_next}
use Rattle.git2show_lib.specs.OtherLines.{shown_line}
use Rattle.git_msg.specs.Lines.{unkept}
use Rattle.git_rows.specs.Worked.{at}
use Rattle.git_rows.proofs.RequestLines.{agent_line}
use Rattle.git_rows.proofs.WrittenPackets.{splits_written}
use Rattle.git_rows.proofs.runs.another_command.Goals as goal

pub returns-clause-named : goal.returns-clause-named
unfolding is_advertised is_other_command is_own_key line_has
returns-clause-named c = refl

pub returns-clause-behind_a_line : goal.returns-clause-behind_a_line
unfolding counted_line is_advertised is_allowed_key is_allowed_value is_other_capability is_other_command is_own_key judged_line line_has place_at_line
returns-clause-behind_a_line c =
    let first = at 0 (payload (codes "agent=a\n")) in
    let named = at 12 (payload (codes "command=bundle-uri\n")) in
    record {
      begins = record {
        front = first ∷ [];
        named = named;
        more = at 35 delim ∷ at 39 flush ∷ [];
        parts = refl;
        begun = (unkept ∷ [], (agent_line 0, tt));
        kept = omega arith;
        names = refl;
      };
      ends = record {
        front = first ∷ named ∷ at 35 delim ∷ [];
        last = at 39 flush;
        parts = refl;
        none_before = ((λ e. cc), ((λ e. cc), ((λ e. cc), tt)));
        is_last = refl;
      };
    }

pub returns-clause-shown : goal.returns-clause-shown
unfolding escape_of is_advertised is_allowed_key is_allowed_value is_other_capability is_other_command is_own_key line_has place_at_line shown_line
returns-clause-shown c = refl

-- of these packets none names another command first
none_named : (front : List Given) (named : Given) (more : List Given)
    → at 0 (payload (codes "command=ls-refs\n")) ∷ at 20 (payload (codes "command=bundle-uri\n")) ∷ at 43 flush ∷ [] ≡ front ++ named ∷ more
    → names_other (codes "bundle-uri\n") (place_after first_place front) named.packet ≡ true → ⊥
unfolding is_other_command is_own_key place_at_line
none_named [] named more parts names =
    let same : at 0 (payload (codes "command=ls-refs\n")) ≡ named = cc in
    let wrong : names_other (codes "bundle-uri\n") first_place (payload (codes "command=ls-refs\n")) ≡ true =
    ap (λ (g : Given). names_other (codes "bundle-uri\n") first_place g.packet) same ∙ names in
    cc
none_named (x ∷ []) named more parts names =
    let first : at 0 (payload (codes "command=ls-refs\n")) ≡ x = cc in
    let wrong : names_other (codes "bundle-uri\n") (place_next first_place (payload (codes "command=ls-refs\n"))) named.packet ≡ true =
    ap (λ (g : Given). names_other (codes "bundle-uri\n") (place_next first_place g.packet) named.packet) first ∙ names in
    cc
none_named (x ∷ y ∷ []) named more parts names =
    let first : at 0 (payload (codes "command=ls-refs\n")) ≡ x = cc in
    let second : at 20 (payload (codes "command=bundle-uri\n")) ≡ y = cc in
    let behind = place_next (place_next first_place (payload (codes "command=ls-refs\n"))) (payload (codes "command=bundle-uri\n")) in
    let wrong : names_other (codes "bundle-uri\n") behind named.packet ≡ true =
    ap (λ (g : Given). names_other (codes "bundle-uri\n") (place_next (place_next first_place g.packet) (payload (codes "command=bundle-uri\n")))
    named.packet) first
    ∙ ap (λ (g : Given). names_other (codes "bundle-uri\n") (place_next (place_next first_place x.packet) g.packet) named.packet) second ∙ names in
    cc
none_named (x ∷ y ∷ z ∷ []) named more parts names = cc
none_named (x ∷ y ∷ z ∷ w ∷ front) named more parts names = cc

pub returns-clause-not_behind_a_command : goal.returns-clause-not_behind_a_command
returns-clause-not_behind_a_command c = λ request.
    none_named request.begins.front request.begins.named request.begins.more request.begins.parts request.begins.names

pub returns-clause-passes : goal.returns-clause-passes
unfolding lower_digit
returns-clause-passes c = record {
  given = at 0 (payload (codes "a\n")) ∷ at 6 flush ∷ [];
  splits = splits_written 0 (payload (codes "a\n") ∷ flush ∷ []) [] refl none_begins_nothing;
  ends = record {
    front = at 0 (payload (codes "a\n")) ∷ [];
    last = at 6 flush;
    parts = refl;
    none_before = (λ e. cc, tt);
    is_last = refl;
  };
}

pub returns-clause-counted : goal.returns-clause-counted
unfolding counted_line is_advertised is_allowed_key is_allowed_value is_other_capability is_own_key line_has place_at_line
returns-clause-counted c = refl

-- of two flushes, the first is not the last packet
two_flushes : (front : List Given) (last : Given) → at 0 flush ∷ at 4 flush ∷ [] ≡ front ++ last ∷ [] → NoneIs flush front → ⊥
two_flushes [] last e none = cc
two_flushes (x ∷ front) last e none = let same : at 0 flush ≡ x = cc in none.0 (ap (λ (g : Given). g.packet) (sym same))

pub returns-clause-not_past_its_flush : goal.returns-clause-not_past_its_flush
unfolding lower_digit
returns-clause-not_past_its_flush c = λ h.
    let k = splits_written 0 (flush ∷ flush ∷ []) [] refl none_begins_nothing in
    let same = one_split 0 (codes "00000000") h.given (at 0 flush ∷ at 4 flush ∷ []) [] [] h.splits.spelled k.spelled h.splits.ends k.ends in
    two_flushes h.ends.front h.ends.last (sym same.packets ∙ h.ends.parts) h.ends.none_before

pub returns-clause-not_unadvertised : goal.returns-clause-not_unadvertised
unfolding is_advertised is_other_command is_own_key line_has
returns-clause-not_unadvertised c = refl

pub returns-clause-not_known : goal.returns-clause-not_known
unfolding is_advertised is_other_command is_own_key line_has
returns-clause-not_known c = refl

pub returns-clause-not_a_capability : goal.returns-clause-not_a_capability
unfolding is_advertised is_other_command is_own_key line_has
returns-clause-not_a_capability c = refl
