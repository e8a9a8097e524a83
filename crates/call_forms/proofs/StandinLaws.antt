-- The constant texts of the stand-ins are replies.
use Rattle.std.proofs.Common.{◌≡◌, true, false, refl, codes}
use Rattle.std.specs.Fmt.{digits}
use Rattle.call_forms.specs.ReplyBytes.{head_text, plain_reply}

pub unavailable_closing : plain_reply 503 14 true (codes "unavailable\n")
    ≡ codes "HTTP/1.1 503 Service Unavailable\r\nContent-Type: text/plain; charset=utf-8\r\nX-Prpc-Grpc-Code: 14\r\nConnection: close\r\nContent-Length: 12\r\n\r\nunavailable\n"
unfolding head_text digits
unavailable_closing = refl

pub unavailable_open : plain_reply 503 14 false (codes "unavailable\n")
    ≡ codes "HTTP/1.1 503 Service Unavailable\r\nContent-Type: text/plain; charset=utf-8\r\nX-Prpc-Grpc-Code: 14\r\nContent-Length: 12\r\n\r\nunavailable\n"
unfolding head_text digits
unavailable_open = refl

pub want_of_memory_closing : plain_reply 500 13 true (codes "want of memory\n")
    ≡ codes "HTTP/1.1 500 Internal Server Error\r\nContent-Type: text/plain; charset=utf-8\r\nX-Prpc-Grpc-Code: 13\r\nConnection: close\r\nContent-Length: 15\r\n\r\nwant of memory\n"
unfolding head_text digits
want_of_memory_closing = refl

pub want_of_memory_open : plain_reply 500 13 false (codes "want of memory\n")
    ≡ codes "HTTP/1.1 500 Internal Server Error\r\nContent-Type: text/plain; charset=utf-8\r\nX-Prpc-Grpc-Code: 13\r\nContent-Length: 15\r\n\r\nwant of memory\n"
unfolding head_text digits
want_of_memory_open = refl

pub spent_closing : plain_reply 429 8 true (codes "spent\n")
    ≡ codes "HTTP/1.1 429 Too Many Requests\r\nContent-Type: text/plain; charset=utf-8\r\nX-Prpc-Grpc-Code: 8\r\nConnection: close\r\nContent-Length: 6\r\n\r\nspent\n"
unfolding head_text digits
spent_closing = refl

pub spent_open : plain_reply 429 8 false (codes "spent\n")
    ≡ codes "HTTP/1.1 429 Too Many Requests\r\nContent-Type: text/plain; charset=utf-8\r\nX-Prpc-Grpc-Code: 8\r\nContent-Length: 6\r\n\r\nspent\n"
unfolding head_text digits
spent_open = refl
