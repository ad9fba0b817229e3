-- What of recordings is left out, by kind.
use Rattle.std.specs.Prelude.{ℕ, ◌+◌}
use Rattle.recording.specs.declared.Skipped.{Skipped}
use Rattle.recording.specs.declared.Skipped.TheVariants.{LinkType, NotIpv4, NotUdp, Cut, BadUdpLength}
use Rattle.recording_packets.specs.declared.left_out.LeftOut.{LeftOut}

-- nothing of any kind
abbrev pub nothing_left_out : LeftOut
nothing_left_out = record {
  link_type = 0;
  not_ipv4 = 0;
  not_udp = 0;
  cut = 0;
  bad_udp_length = 0;
  copies = 0;
  fragments_without_rest = 0;
  fragments_that_differ = 0;
}

-- one more of a kind
abbrev pub counted : Skipped → LeftOut → LeftOut
counted LinkType l = record l { link_type = l.link_type + 1 }
counted NotIpv4 l = record l { not_ipv4 = l.not_ipv4 + 1 }
counted NotUdp l = record l { not_udp = l.not_udp + 1 }
counted Cut l = record l { cut = l.cut + 1 }
counted BadUdpLength l = record l { bad_udp_length = l.bad_udp_length + 1 }

-- one more copy
abbrev pub with_copy : LeftOut → LeftOut
with_copy l = record l { copies = l.copies + 1 }

-- how many of all kinds
abbrev pub total : LeftOut → ℕ
total l =
    l.link_type + l.not_ipv4 + l.not_udp + l.cut + l.bad_udp_length + l.copies + l.fragments_without_rest
    + l.fragments_that_differ
