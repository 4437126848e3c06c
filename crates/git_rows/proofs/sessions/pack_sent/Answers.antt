use Rattle.std.proofs.Common.{◌≡◌, ℕ, true, sym, append-nil, List, [], ◌∷◌, ◌++◌, codes, refl, arith, inr}
use Rattle.git_names.specs.Digits.{lower_digit}
use Rattle.git_pkt.specs.Bands.{AreBands}
use Rattle.git_pkt.specs.Packets.{Pkt, flush, payload}
use Rattle.git_pkt.specs.declared.band.Band.TheVariants.{Pack}
use Rattle.git_msg.specs.Asked.{fetch}
use Rattle.git_msg.specs.WrittenRequest.{text_line}
use Rattle.git_server.specs.Answers.{spelled}
use Rattle.git_server.specs.Packs.{pack_source_packet}
use Rattle.git_server.specs.Sessions.{IsSession}
use Rattle.git_server.specs.declared.outcome.Outcome.TheVariants.{Closed, Flush}
use Rattle.git_server.proofs.OneOutcome.{one_outcome}
use Rattle.git_rows.specs.Worked.{at, fetch_done_packets, fetch_of, name_a, want_alone_packets}
use Rattle.git_rows.specs.WorkedSessions.{fetch_bytes, setting}
use Rattle.git_rows.proofs.ServedRequests.{fetch_request, fetch_splits, fetch_stream, pack_answer}
use Rattle.git_rows.proofs.WrittenPackets.{all_fit, fit_by}
use Rattle.git_rows.proofs.sessions.pack_sent.Goals as goal

-- the answer and the session, depending on how the pack is cut into packets
abbrev with_header : List Pkt → List Pkt
with_header bands = text_line (codes "packfile") ∷ (bands ++ flush ∷ [])

sent : (bands : List Pkt) (given : List ℕ) → AreBands Pack (codes "PACK!") bands → given ≡ spelled (with_header bands ++ [])
    → all_fit (with_header bands ++ []) ≡ true
    → IsSession setting fetch_bytes true given Closed
sent bands given are is fit = record {
  asked = fetch (fetch_of (name_a ∷ []) true) ∷ [];
  left = [];
  rest = [];
  answers = with_header bands;
  stream = fetch_stream;
  ends = (refl, refl, refl);
  answered = (with_header bands, [], sym (append-nil (with_header bands)), pack_answer bands are, refl);
  tail = [];
  is_tail = refl;
  given_is = is;
  fit = fit_by (with_header bands ++ []) fit;
}

in_one_packet : IsSession setting fetch_bytes true (codes "000dpackfile\n000a" ++ 1 ∷ codes "PACK!0000") Closed
unfolding lower_digit
in_one_packet = sent (payload (1 ∷ codes "PACK!") ∷ []) _ (codes "PACK!", [], refl, omega arith, omega arith, refl, refl) refl refl

pub returns-clause-in_one_packet : goal.returns-clause-in_one_packet
returns-clause-in_one_packet c = in_one_packet

pub returns-clause-in_two_packets : goal.returns-clause-in_two_packets
unfolding lower_digit
returns-clause-in_two_packets c = sent (payload (1 ∷ codes "PA") ∷ payload (1 ∷ codes "CK!") ∷ []) _ (
  codes "PA",
  codes "CK!",
  refl,
  omega arith,
  omega arith,
  refl,
  (codes "CK!", [], refl, omega arith, omega arith, refl, refl),
) refl refl

pub returns-clause-broken_off : goal.returns-clause-broken_off
unfolding lower_digit
returns-clause-broken_off c = record {
  asked = [];
  left = fetch_done_packets;
  rest = [];
  answers = [];
  stream = record { packets = fetch_done_packets; splits = fetch_splits; requests = refl };
  ends = inr (record {
    goes_on = refl;
    asked = fetch (fetch_of (name_a ∷ []) true);
    is_request = fetch_request;
    name = refl;
    at = (want_alone_packets ++ at 72 (text_line (codes "done")) ∷ [], at 81 flush, refl, refl);
    no_rest = refl;
  });
  answered = refl;
  tail = text_line (codes "packfile") ∷ pack_source_packet ∷ [];
  is_tail = record {
    asked = fetch (fetch_of (name_a ∷ []) true);
    is_request = fetch_request;
    breaks = record {
      others = text_line (codes "packfile") ∷ pack_source_packet ∷ [];
      holds = record {
        others = text_line (codes "packfile") ∷ pack_source_packet ∷ [];
        holds = record {
          tail = pack_source_packet ∷ [];
          ends = record { front = []; back = codes "PACK!"; bands = []; cut = refl; are_bands = refl; packets_are = refl };
          packets_are = refl;
        };
        packets_are = refl;
      };
      packets_are = refl;
    };
  };
  given_is = refl;
  fit = fit_by (text_line (codes "packfile") ∷ pack_source_packet ∷ []) refl;
}

pub returns-clause-not_left : goal.returns-clause-not_left
returns-clause-not_left c = λ h.
    let same : Flush ≡ Closed = one_outcome setting fetch_bytes true _ _ Flush Closed h in_one_packet
    (record { by_memory = λ w. w; by_pack = λ w. w }) (record { by_memory = λ w. w; by_pack = λ w. w }) in
    cc
