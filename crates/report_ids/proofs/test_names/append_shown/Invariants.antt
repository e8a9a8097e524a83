use Rattle.std.proofs.Common.{◌≡◌, ◌++◌, map, string_bytes, encode_utf8_all}
use Rattle.std.specs.Str.{IsUtf8, chars}
use Rattle.report_ids.specs.TestNames.{front_within, shown}
use Rattle.report_ids.specs.Rooms.{room_behind}
use Rattle.report_ids.proofs.test_names.append_shown.Given as goal

abbrev pub invariant-loop-c : goal.invariant-loop-c
invariant-loop-c l = record {
  valid : IsUtf8 l.c-iterator.rest.now;
  front : string_bytes l.out ++ encode_utf8_all (front_within l.left (map shown (chars l.c-iterator.rest.now)))
      ≡ string_bytes l.initial.out ++ encode_utf8_all (front_within l.fn.room (map shown (chars l.fn.text)));
  left : room_behind l.left (map shown (chars l.c-iterator.rest.now)) ≡ room_behind l.fn.room (map shown (chars l.fn.text));
}
