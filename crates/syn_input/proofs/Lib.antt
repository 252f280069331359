mod Closed
mod Forks
mod GroupTokens
mod RawTexts
mod Wholes
