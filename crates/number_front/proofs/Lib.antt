mod FrontNumbers
mod PrintedWords
mod HexadecimalWords
