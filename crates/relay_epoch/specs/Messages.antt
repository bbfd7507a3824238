-- The request that writes the counter (RFC 9112, section 3).
use Rattle.std.specs.Prelude.{ℕ, List, ◌++◌, length, codes}
use Rattle.std.specs.Fmt.{decimal}

-- the head of a PUT of this target to this host, with a length in these digits
unfoldable pub put_head : List ℕ → List ℕ → List ℕ → List ℕ
put_head host target digits =
    codes "PUT " ++ (target ++ (codes " HTTP/1.1\r\nHost: " ++ (host
    ++ (codes "\r\nContent-Type: application/json\r\nContent-Length: " ++ (digits ++ codes "\r\n\r\n")))))

-- the request with this body
abbrev pub put_message : List ℕ → List ℕ → List ℕ → List ℕ
put_message host target body = put_head host target (decimal (length body)) ++ body
